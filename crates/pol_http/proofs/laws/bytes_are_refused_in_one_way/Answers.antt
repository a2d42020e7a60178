use Rattle.pol_http.proofs.MessageLemmas.{refused_unique, message_not_refused}
use Rattle.pol_http.proofs.laws.bytes_are_refused_in_one_way.Goals as goal

pub returns : goal.returns
returns c = λ bytes why refused. (
  λ other also. refused_unique bytes why other refused also,
  λ m rest reads. message_not_refused bytes m rest reads why refused,
)
