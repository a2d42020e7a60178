use Rattle.pol_metalaws.proofs.MetadataLemmas as lemmas
use Rattle.pol_metalaws.proofs.laws.printed_is_read.Goals as goal

pub returns : goal.returns
returns c = lemmas.printed_is_read
