use Rattle.pol_rules.proofs.LiveLemmas.{live-agrees, live-sound}
use Rattle.pol_machine.proofs.laws.live_part_agrees.Goals as goal

pub returns : goal.returns
returns c s sound = (live-sound s sound, live-agrees s)
