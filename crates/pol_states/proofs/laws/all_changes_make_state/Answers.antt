use Rattle.pol_states.proofs.LawLemmas.{makes-anew}
use Rattle.pol_states.proofs.laws.all_changes_make_state.Goals as goal

pub returns : goal.returns
returns c s sound = makes-anew s sound
