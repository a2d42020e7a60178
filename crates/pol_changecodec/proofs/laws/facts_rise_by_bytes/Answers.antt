use Rattle.pol_changecodec.proofs.OrderLemmas.{facts_rise}
use Rattle.pol_changecodec.proofs.laws.facts_rise_by_bytes.Goals as goal

pub returns : goal.returns
returns c = facts_rise c.facts_are_in_order.ensures c.facts_are_in_byte_order.ensures
