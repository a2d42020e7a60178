use Rattle.std.proofs.Common.{◌≡◌}
use Rattle.pol_metajson.proofs.body.values.Given as goal

abbrev pub invariant-loop-body : goal.invariant-loop-body
invariant-loop-body g l = l.values.items ≡ l.yielded
