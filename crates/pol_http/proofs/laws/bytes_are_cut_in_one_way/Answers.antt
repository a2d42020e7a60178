use Rattle.pol_http.proofs.MessageLemmas.{messages_unique}
use Rattle.pol_http.proofs.laws.bytes_are_cut_in_one_way.Goals as goal

pub returns : goal.returns
returns c = messages_unique
