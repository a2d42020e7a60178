use Rattle.std.proofs.Common.{◌≡◌, true, get_or, arith, ◌∙◌}
use Rattle.std.specs.Char.{is_ascii_digit}
use Rattle.std.proofs.lemmas.List.Sums.{AllPass-from_list_all}
use Rattle.pol_metajson.proofs.NumeralLemmas.{value_more}
use Rattle.pol_metajson.proofs.numeral.value_of.Goals as goal

pub loop-digit-preserved : goal.loop-digit-preserved
loop-digit-preserved c =
    let digits = c.args.digits.now in
    let i = c.loop-digit.digit-index in
    let passes : is_ascii_digit (get_or digits i 0) ≡ true = AllPass-from_list_all is_ascii_digit digits c.requires i 0 (omega arith) in
    c.min-value.ensures ∙ rw (c.from.ensures, c.saturating_sub.ensures)
    (value_more digits i 2147483648 c.loop-digit.value (omega arith) (omega arith) passes c.loop-digit.invariant)
