use Rattle.pol_soundness.proofs.ValidLemmas.{sound-valid}
use Rattle.pol_soundness.proofs.laws.sound_states_are_valid.Goals as goal

pub returns : goal.returns
returns c s sound = sound-valid s sound
