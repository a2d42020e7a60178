use Rattle.pol_content.proofs.ChainLemmas.{chains_have}
use Rattle.pol_content.proofs.laws.chains_have_what_contains.Goals as goal

pub returns : goal.returns
returns c = chains_have
