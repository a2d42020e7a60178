use Rattle.pol_forms.proofs.PropertyLemmas.{AreBelowTo}
use Rattle.pol_forms.proofs.names.keys_ascend.Given as goal

abbrev pub invariant-loop-i : goal.invariant-loop-i
invariant-loop-i l = AreBelowTo l.i l.pairs
