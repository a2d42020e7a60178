use Rattle.std.proofs.Common.{refl}
use Rattle.std.specs.Fmt.{digits}
use Rattle.pol_http.specs.Answer.{answer_text, status_line, phrase, body_fields, type_field, length_field, cache_fields, close_field, content}
use Rattle.pol_http.proofs.laws.fixed_texts.Goals as goal

pub returns-clause-continues : goal.returns-clause-continues
unfolding status_line phrase digits
returns-clause-continues c = refl

pub returns-clause-no_memory : goal.returns-clause-no_memory
unfolding answer_text status_line phrase body_fields type_field length_field cache_fields close_field content digits
returns-clause-no_memory c = refl
