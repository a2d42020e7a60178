use Rattle.pol_sound_access.proofs.DecidedLemmas.{access_decided}
use Rattle.pol_sound_access.proofs.FoundLemmas.{if_ok}
use Rattle.pol_sound_access.proofs.access.is_sound_access.Goals as goal

pub returns-clause-sound : goal.returns-clause-sound
returns-clause-sound c = if_ok _ _ c.passes.result (λ sound is. access_decided c.args.next_id c.args.access.now.rows sound is) c.passes.ensures
