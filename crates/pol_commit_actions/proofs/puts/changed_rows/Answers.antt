use Rattle.std.proofs.Common.{◌∙◌, ap, rules}
use Rattle.std.specs.Cmp.{on_total}
use Rattle.std.proofs.lemmas.Cmp.{nat_cmp_total}
use Rattle.std.proofs.lemmas.List.Sorted.{answers_always, ranks_by}
use Rattle.pol_table_rows.specs.Tables.{table_id}
use Rattle.pol_table_rows.specs.declared.row.TableRow.{TableRow}
use Rattle.pol_tables.specs.Order.{in_order}
use Rattle.pol_tables.proofs.OrderLemmas.{sorted-in_order}
use Rattle.pol_commit_actions.specs.Replaced.{by_id}
use Rattle.pol_commit_actions.proofs.puts.changed_rows.Goals as goal

pub returns : goal.returns
returns c =
    let total = on_total table_id nat_cmp_total in
    let weak = ranks_by total (λ (row : TableRow). row) in
    let compares = answers_always _ _ _ (λ f a r h i. search rules) in
    sorted-in_order by_id total _ _ (c.in_ok-sort_by.ensures.sorted _ weak compares) (c.in_ok-sort_by.ensures.stable _ weak compares)
    ∙ ap (in_order by_id) c.in_ok-rows.ensures
