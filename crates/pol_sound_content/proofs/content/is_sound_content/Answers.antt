use Rattle.pol_sound_access.proofs.FoundLemmas.{if_ok}
use Rattle.pol_sound_content.proofs.DecidedLemmas.{content_decided}
use Rattle.pol_sound_content.proofs.content.is_sound_content.Goals as goal

pub returns-clause-sound : goal.returns-clause-sound
returns-clause-sound c valid =
    if_ok _ _ c.passes.result (λ sound is. content_decided c.args.next_id c.args.content.now.rows sound valid is) c.passes.ensures
