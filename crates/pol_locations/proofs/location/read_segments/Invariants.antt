use Rattle.std.proofs.Common.{drop}
use Rattle.pol_locations.specs.Location.{texts}
use Rattle.pol_locations.proofs.Segments.{HaveRead}
use Rattle.pol_locations.proofs.location.read_segments.Given as goal

abbrev pub invariant-loop-segment : goal.invariant-loop-segment
invariant-loop-segment l = HaveRead (texts l.segments) l.read.items (texts (drop l.segment-index l.segments))
