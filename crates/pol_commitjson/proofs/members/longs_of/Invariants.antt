use Rattle.std.proofs.Common.{◌≡◌}
use Rattle.pol_commitjson.proofs.members.longs_of.Given as goal

abbrev pub invariant-loop-id : goal.invariant-loop-id
invariant-loop-id l = l.ids.items ≡ l.yielded
