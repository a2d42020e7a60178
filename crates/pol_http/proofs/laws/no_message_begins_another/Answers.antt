use Rattle.pol_http.proofs.MessageLemmas.{begins_no_other}
use Rattle.pol_http.proofs.laws.no_message_begins_another.Goals as goal

pub returns : goal.returns
returns c = begins_no_other
