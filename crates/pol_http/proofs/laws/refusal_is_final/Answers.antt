use Rattle.pol_http.proofs.MessageLemmas.{refused_stays}
use Rattle.pol_http.proofs.laws.refusal_is_final.Goals as goal

pub returns : goal.returns
returns c = refused_stays
