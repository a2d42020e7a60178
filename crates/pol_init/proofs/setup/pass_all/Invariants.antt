use Rattle.pol_init.proofs.SetUpLemmas.{IsSetUpTo}
use Rattle.pol_init.proofs.setup.pass_all.Given as goal

abbrev pub invariant-loop-index : goal.invariant-loop-index
invariant-loop-index l = IsSetUpTo l.fn.state.rows l.state.rows l.commands l.index
