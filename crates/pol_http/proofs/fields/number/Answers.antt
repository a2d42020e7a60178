use Rattle.std.proofs.Common.{◌≡◌, ◌&&◌, true, get_or, arith, sym, ◌∙◌}
use Rattle.std.specs.Char.{is_ascii_digit}
use Rattle.std.proofs.lemmas.List.Folds.{list_all_more}
use Rattle.pol_http.proofs.FieldLemmas.{number_more}
use Rattle.pol_http.proofs.fields.number.Goals as goal

pub loop-digit-preserved : goal.loop-digit-preserved
loop-digit-preserved c =
    let digits = c.args.digits.now in
    let i = c.loop-digit.digit-index in
    let passes : is_ascii_digit (get_or digits i 0) ≡ true = sym c.is_ascii_digit.ensures.value ∙ c.if-not-is_ascii_digit.false in (
      list_all_more is_ascii_digit digits i 0 (omega arith) ∙ (λ k. c.loop-digit.invariant.0 k && passes k),
      c.min-value.ensures ∙ rw (c.from.ensures)
          (number_more digits i 16777217 c.loop-digit.value (omega arith) (omega arith) passes c.loop-digit.invariant.1),
    )
