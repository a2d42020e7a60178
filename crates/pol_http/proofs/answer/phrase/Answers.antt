use Rattle.std.proofs.Common.{◌∙◌, ap}
use Rattle.http.specs.StatusCode.{reason_phrase}
use Rattle.pol_http.proofs.AnswerLemmas.{phrase-known, phrase-none}
use Rattle.pol_http.proofs.answer.phrase.Goals as goal

pub returns-in_default : goal.returns-in_default
returns-in_default c = phrase-none c.args.status c.in_default.ensures

pub returns-in-Some : goal.returns-in-Some
returns-in-Some c = phrase-known c.args.status _ c.in-Ok.ensures.0 (c.in-Some.ensures.value ∙ ap reason_phrase c.in-Ok.ensures.1)

pub returns-in-None : goal.returns-in-None
returns-in-None c = phrase-known c.args.status _ c.in-Ok.ensures.0 (c.in-None.ensures.value ∙ ap reason_phrase c.in-Ok.ensures.1)
