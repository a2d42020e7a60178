use Rattle.std.proofs.Common.{ap, ◌∙◌}
use Rattle.pol_sound_access.specs.Judged.{all_differ}
use Rattle.pol_sound_access.proofs.FoundLemmas.{if_ok}
use Rattle.pol_sound_access.proofs.access.grants_differ.Goals as goal

pub returns : goal.returns
returns c =
    if_ok _ _ c.fact_keys_differ.result (λ apart is. is ∙ ap (all_differ _) c.grants.ensures) c.fact_keys_differ.ensures
