use Rattle.std.proofs.Common.{◌≡◌}
use Rattle.pol_metajson.proofs.schema.plain_ids.Given as goal

abbrev pub invariant-loop-id : goal.invariant-loop-id
invariant-loop-id l = l.ids.items ≡ l.yielded
