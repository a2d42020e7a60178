use Rattle.pol_viewjson.proofs.ReadLemmas as lemmas
use Rattle.pol_viewjson.proofs.laws.printed_is_read.Goals as goal

pub returns : goal.returns
returns c = lemmas.printed_is_read
