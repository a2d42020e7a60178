use Rattle.std.proofs.Common.{◌≡◌, ◌++◌, take}
use Rattle.pol_locations.specs.Location.{segments_of}
use Rattle.pol_values.proofs.values.joined.Given as goal

abbrev pub invariant-loop-segment : goal.invariant-loop-segment
invariant-loop-segment l = l.location ≡ segments_of l.base ++ take l.segment-index l.segments
