use Rattle.std.proofs.Common.{rules}
use Rattle.std.proofs.lemmas.List.Sorted.{answers_always, ranks_by}
use Rattle.pol_tables.proofs.OrderLemmas.{lent-in_order}
use Rattle.pol_tables.proofs.order.sorted_rows.Goals as goal

pub returns : goal.returns
returns g c =
    let weak = ranks_by g.met.R.Sortable.total (λ row. row.now) in
    let compares = answers_always _ _ _ (λ f a r h i. search rules) in
    lent-in_order g.R.Sortable.cmp g.met.R.Sortable.total c.args.rows.items c.sort_by.new.self.items (c.in_ok-sort_by.ensures.sorted _ weak compares) (c.in_ok-sort_by.ensures.stable _ weak compares)
