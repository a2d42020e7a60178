use Rattle.pol_routes.proofs.VerbLemmas.{planned_by}
use Rattle.pol_routes.proofs.laws.verbs_ask_for_access.Goals as goal

pub returns : goal.returns
returns c = planned_by
