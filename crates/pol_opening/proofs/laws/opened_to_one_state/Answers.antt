use Rattle.pol_opening.proofs.LawLemmas.{one_state}
use Rattle.pol_opening.proofs.laws.opened_to_one_state.Goals as goal

pub returns : goal.returns
returns c = one_state
