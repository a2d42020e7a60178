use Rattle.pol_codec.proofs.OrderLemmas.{facts_in_byte_order}
use Rattle.pol_codec.proofs.laws.facts_are_in_byte_order.Goals as goal

pub returns : goal.returns
returns c = facts_in_byte_order
