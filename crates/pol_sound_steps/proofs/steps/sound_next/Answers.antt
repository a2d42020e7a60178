use Rattle.pol_soundness.proofs.ValidLemmas.{sound-valid}
use Rattle.pol_sound_steps.proofs.steps.sound_next.Goals as goal

pub sound_after-requires-clause-state : goal.sound_after-requires-clause-state
sound_after-requires-clause-state c = sound-valid c.args.state.now.rows c.requires.sound
