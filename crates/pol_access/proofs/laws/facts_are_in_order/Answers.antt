use Rattle.pol_access.proofs.FactOrderLemmas.{facts_in_order}
use Rattle.pol_access.proofs.laws.facts_are_in_order.Goals as goal

pub returns : goal.returns
returns c = facts_in_order
