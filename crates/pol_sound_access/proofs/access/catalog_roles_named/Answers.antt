use Rattle.std.proofs.Common.{ap, ◌∙◌}
use Rattle.pol_sound_access.specs.Judged.{all_differ}
use Rattle.pol_sound_access.proofs.FoundLemmas.{if_ok}
use Rattle.pol_sound_access.proofs.KeyLemmas.{catalog_roles_told}
use Rattle.pol_sound_access.proofs.access.catalog_roles_named.Goals as goal

pub returns : goal.returns
returns c =
    if_ok _ _ c.keys_differ.result (λ apart is. is ∙ ap (all_differ _) c.catalog_roles.ensures ∙ catalog_roles_told c.args.access.now.rows.catalog_roles) c.keys_differ.ensures
