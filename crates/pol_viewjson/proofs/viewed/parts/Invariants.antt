use Rattle.std.proofs.Common.{◌≡◌}
use Rattle.pol_viewjson.proofs.viewed.parts.Given as goal

abbrev pub invariant-loop-one : goal.invariant-loop-one
invariant-loop-one g l = l.parts.items ≡ l.yielded
