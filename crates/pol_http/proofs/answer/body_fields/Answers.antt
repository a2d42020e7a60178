use Rattle.std.proofs.Common.{◌++◌, codes, decimal, append_assoc, sym, ◌∙◌}
use Rattle.pol_http.specs.Answer.{body_fields, length_field, length_of, type_field, cache_fields}
use Rattle.pol_http.proofs.answer.body_fields.Goals as goal

pub returns : goal.returns
unfolding body_fields length_field
returns c =
    let body = c.args.answer.now.body in
    rw (sym c.is_bare.ensures ∙ c.if-is_bare.false) (
    c.in_ok-format.ensures.ok
    ∙ (λ k. c.type_field-kind.ensures k ++ (codes "content-length: " ++ (decimal (c.length-length.ensures k) ++ (codes "\r\n" ++ c.cache_fields-cache.ensures k))))
    ∙ (λ k. type_field body ++ (codes "content-length: " ++ sym (append_assoc (decimal (length_of body)) (codes "\r\n") (cache_fields body)) k)))

pub returns-then-is_bare : goal.returns-then-is_bare
unfolding body_fields
returns-then-is_bare c = rw (sym c.is_bare.ensures ∙ c.if-is_bare.true) c.new.ensures.bytes
