use Rattle.pol_tables.proofs.OrderLemmas.{sorted-in_order}
use Rattle.pol_tables.proofs.order.sorted_facts.Goals as goal

pub returns : goal.returns
returns g c = sorted-in_order g.T.Ord.cmp g.met.T.Ord.total _ _ c.in_ok-sort.ensures.sorted c.in_ok-sort.ensures.stable
