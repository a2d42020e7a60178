use Rattle.std.proofs.Common.{◌∙◌}
use Rattle.pol_meta.proofs.CreationLemmas.{sort_sources}
use Rattle.pol_meta.proofs.create.are_sort_sources.Goals as goal

pub returns : goal.returns
returns c =
    c.has_sort_sources.ensures
    ∙ sort_sources c.in_ok-ids.ids.keys c.args.columns.now c.args.fields.now c.in_ok-ids.ensures
