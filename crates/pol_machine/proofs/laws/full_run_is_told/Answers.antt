use Rattle.pol_machine.proofs.DecisionLemmas.{full-told}
use Rattle.pol_machine.proofs.laws.full_run_is_told.Goals as goal

pub returns : goal.returns
returns c = full-told
