use Rattle.std.proofs.Common.{ap, ◌∙◌}
use Rattle.pol_sound_access.specs.Judged.{all_differ}
use Rattle.pol_sound_access.proofs.FoundLemmas.{if_ok}
use Rattle.pol_sound_access.proofs.KeyLemmas.{clients_told}
use Rattle.pol_sound_access.proofs.access.clients_differ.Goals as goal

pub returns : goal.returns
returns c =
    if_ok _ _ c.keys_differ.result (λ apart is. is ∙ ap (all_differ _) c.principals.ensures ∙ clients_told c.args.access.now.rows.principals) c.keys_differ.ensures
