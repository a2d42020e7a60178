use Rattle.std.proofs.Common.{◌≡◌, length}
use Rattle.pol_routes.specs.Segment.{has_whole_escapes}
use Rattle.pol_routes.proofs.segment.has_whole_escapes.Given as goal

abbrev pub invariant-bytes : goal.invariant-bytes
invariant-bytes l = has_whole_escapes l.rest ≡ has_whole_escapes l.fn.bytes

abbrev pub decreases-bytes : goal.decreases-bytes
decreases-bytes l = length l.rest
