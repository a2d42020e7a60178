use Rattle.std.proofs.Common.{◌≡◌}
use Rattle.pol_commitjson.proofs.members.ids_of.Given as goal

abbrev pub invariant-loop-id : goal.invariant-loop-id
invariant-loop-id l = l.ids.items ≡ l.yielded
