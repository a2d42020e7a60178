use Rattle.std.proofs.Common.{map, ap, ◌∙◌}
use Rattle.std.proofs.lemmas.Result.{IfOk-weaker}
use Rattle.pol_content.specs.Content.{ContentRows}
use Rattle.pol_table_rows.specs.Tables.{tables_in}
use Rattle.pol_table_actions.specs.Tables.{identifier_in}
use Rattle.pol_table_actions.proofs.RowsLemmas.{identifiers_shown}
use Rattle.pol_table_actions.proofs.tables.listed.Goals as goal

pub returns : goal.returns
returns c =
    let levels = c.args.row.now.levels in
    let lent = c.in_ok-tables.tables.items in
    let found = c.in_ok-tables.ensures ∙ ap (λ (content : ContentRows). tables_in c.args.row.now.id content.tables) c.content.ensures in
    IfOk-weaker c.identifiers_of.result _ _ (λ identifiers is. is ∙ ap (map (λ table. identifier_in levels table.now.name)) c.as_slice.ensures.value ∙ identifiers_shown levels lent _ found) c.identifiers_of.ensures
