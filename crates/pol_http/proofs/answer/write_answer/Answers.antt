use Rattle.std.proofs.Common.{◌++◌, codes, decimal, ap, ◌∙◌}
use Rattle.pol_http.specs.Answer.{content}
use Rattle.pol_http.proofs.AnswerLemmas.{status_line-then, head-then-content}
use Rattle.pol_http.proofs.answer.write_answer.Goals as goal

pub returns : goal.returns
returns c =
    let answer = c.args.answer.now in
    let head = c.in_ok-head.ensures.ok
    ∙ (λ k. codes "HTTP/1.1 " ++ (decimal answer.status ++ (codes " " ++ (c.phrase-phrase.ensures k ++ (codes "\r\n"
    ++ ((c.as_str-fields.ensures.value ∙ c.in_ok-fields.ensures) k ++ (c.close_field-close.ensures k ++ codes "\r\n")))))))
    ∙ status_line-then answer.status _ in
    c.in_ok-extend_from_slice.ensures.items
    ∙ (λ k. (c.into_bytes-text.ensures.value k).items ++ c.content.ensures k)
    ∙ ap (λ text. text ++ content answer) head
    ∙ head-then-content answer
