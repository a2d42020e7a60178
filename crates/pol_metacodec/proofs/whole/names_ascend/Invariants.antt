use Rattle.pol_metacodec.proofs.WholeLemmas.{AreBelowTo}
use Rattle.pol_metacodec.proofs.whole.names_ascend.Given as goal

abbrev pub invariant-loop-i : goal.invariant-loop-i
invariant-loop-i l = AreBelowTo l.i l.refs
