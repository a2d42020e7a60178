use Rattle.pol_machine.proofs.DecisionLemmas.{changes-lead}
use Rattle.pol_machine.proofs.laws.changes_lead_to_next_state.Goals as goal

pub returns : goal.returns
returns c = changes-lead
