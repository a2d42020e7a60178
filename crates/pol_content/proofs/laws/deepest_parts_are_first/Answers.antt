use Rattle.pol_content.proofs.ChainLemmas.{deepest_first}
use Rattle.pol_content.proofs.laws.deepest_parts_are_first.Goals as goal

pub returns : goal.returns
returns c = deepest_first
