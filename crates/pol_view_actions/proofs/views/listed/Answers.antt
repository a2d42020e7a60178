use Rattle.std.proofs.Common.{map, ap, ◌∙◌}
use Rattle.std.proofs.lemmas.Result.{IfOk-weaker}
use Rattle.pol_content.specs.Content.{ContentRows}
use Rattle.pol_view_rows.specs.Views.{views_in}
use Rattle.pol_table_actions.specs.Tables.{identifier_in}
use Rattle.pol_view_actions.proofs.RowsLemmas.{identifiers_shown}
use Rattle.pol_view_actions.proofs.views.listed.Goals as goal

pub returns : goal.returns
returns c =
    let levels = c.args.row.now.levels in
    let lent = c.in_ok-views.views.items in
    let found = c.in_ok-views.ensures ∙ ap (λ (content : ContentRows). views_in c.args.row.now.id content.views) c.content.ensures in
    IfOk-weaker c.identifiers_of.result _ _ (λ identifiers is. is ∙ ap (map (λ view. identifier_in levels view.now.name)) c.as_slice.ensures.value ∙ identifiers_shown levels lent _ found) c.identifiers_of.ensures
