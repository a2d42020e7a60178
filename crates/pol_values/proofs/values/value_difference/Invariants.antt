use Rattle.std.proofs.Common.{ℕ, ◌<◌, get_or}
use Rattle.pol_values.specs.Values.{IsAsWanted}
use Rattle.pol_values.specs.declared.values.Value.{Value}
use Rattle.pol_values.proofs.values.value_difference.Given as goal

abbrev pub invariant-loop-value : goal.invariant-loop-value
invariant-loop-value l = (k : ℕ) (d : Value) → k < l.value-index → IsAsWanted (get_or l.values k d)
