use Rattle.std.proofs.Common.{◌∙◌}
use Rattle.pol_viewcodec.proofs.IdLemmas.{named_schemas}
use Rattle.pol_viewcodec.proofs.whole.has_schemas.Goals as goal

pub returns : goal.returns
returns c =
    c.are_named.ensures ∙ named_schemas c.in_ok-ids.ids.keys c.args.meta.now c.args.meta.now.versions c.in_ok-ids.ensures
