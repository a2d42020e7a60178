use Rattle.pol_machine.proofs.DecisionLemmas.{next-sound}
use Rattle.pol_machine.proofs.laws.next_state_is_sound.Goals as goal

pub returns : goal.returns
returns c = next-sound
