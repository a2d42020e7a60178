use Rattle.std.proofs.Common.{drop}
use Rattle.pol_locations.specs.Location.{texts}
use Rattle.pol_locations.proofs.Lengths.{HaveMeasured}
use Rattle.pol_locations.proofs.location.is_too_long.Given as goal

abbrev pub invariant-loop-segment : goal.invariant-loop-segment
invariant-loop-segment l = HaveMeasured (texts l.segments) (texts (drop l.segment-index l.segments)) l.length
