use Rattle.pol_tables.proofs.OrderLemmas.{lists_in_order}
use Rattle.pol_tables.proofs.laws.lists_are_in_order.Goals as goal

pub returns : goal.returns
returns g c = lists_in_order
