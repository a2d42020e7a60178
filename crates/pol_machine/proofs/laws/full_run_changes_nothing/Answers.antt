use Rattle.pol_machine.proofs.DecisionLemmas.{full-unchanged}
use Rattle.pol_machine.proofs.laws.full_run_changes_nothing.Goals as goal

pub returns : goal.returns
returns c = full-unchanged
