use Rattle.pol_states.proofs.LawLemmas.{listed-sound}
use Rattle.pol_states.proofs.laws.listed_state_is_sound.Goals as goal

pub returns : goal.returns
returns c s sound = listed-sound s sound
