use Rattle.std.proofs.Common.{ap, ◌∙◌}
use Rattle.pol_sound_access.specs.Judged.{all_differ}
use Rattle.pol_sound_access.proofs.FoundLemmas.{if_ok}
use Rattle.pol_sound_content.proofs.KeyLemmas.{tables_told}
use Rattle.pol_sound_content.proofs.content.tables_named.Goals as goal

pub returns : goal.returns
returns c =
    if_ok _ _ c.keys_differ.result (λ apart is. is ∙ ap (all_differ _) c.tables.ensures ∙ tables_told c.args.content.now.rows.tables) c.keys_differ.ensures
