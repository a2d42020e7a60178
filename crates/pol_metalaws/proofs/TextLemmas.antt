-- Printed words are read as what they name.
use Rattle.std.proofs.Common.{◌≡◌, ◌≤◌, ◌<◌, ◌^◌, ◌-◌, ◌==◌, ℕ, zero, suc, true, false, nat_lt, nat_eq, List, [], ◌∷◌, ◌++◌, length, get_or, codes, decimal, Some, option_and_then, refl, sym, append_assoc, length-append, arith}
use Rattle.std.specs.Char.{digit_value, is_ascii_digit}
use Rattle.std.specs.Cmp.Lexicographic.{pointwise}
use Rattle.std.specs.List.{list_all, position_or_len}
use Rattle.std.specs.Str.Parse.{AllDigits}
use Rattle.std.proofs.lemmas.Bool.Decides.{nat_tests}
use Rattle.std.proofs.lemmas.Fmt.{decimal_digit, decimal_is_IsNumeral, decimal_nonempty, first_decimal}
use Rattle.std.proofs.Math.Seq.{drop-append-add, drop-append_seam, take-append_seam}
use Rattle.pol_meta.specs.Valid.{IsDecimal, IsSize, IsTransform}
use Rattle.pol_meta.specs.declared.column.Kind.TheVariants as kind
use Rattle.pol_meta.specs.declared.transform.Transform.{Transform}
use Rattle.pol_meta.specs.declared.transform.Transform.TheVariants.{Identity, Void, Year, Month, Day, Hour, Bucket, Truncate}
use Rattle.pol_metajson.specs.Brackets.{before}
use Rattle.pol_metajson.specs.Kind.{comma_of, decimal_of, kind_of}
use Rattle.pol_metajson.specs.Numeral.{has_leading_zero, numeral}
use Rattle.pol_metajson.specs.Transform.{transform_of}
use Rattle.pol_metaprint.specs.Texts.{kind_text, transform_text}

-- the digits of a number are read as the number
digit_of : (code : ℕ) → digit_value code < 10 → is_ascii_digit code ≡ true
digit_of code small = grind (arith, nat_tests)

digits_pass : (digits : List ℕ) → AllDigits 10 digits → list_all is_ascii_digit digits ≡ true
digits_pass [] all = refl
digits_pass (digit ∷ digits) all = rw (digit_of digit all.0, digits_pass digits all.1) refl

no_zero_first : (digits : List ℕ) → 0 < length digits → 48 < get_or digits 0 0 → has_leading_zero digits ≡ false
no_zero_first [] some above = absurd (omega arith)
no_zero_first (digit ∷ []) some above = refl
no_zero_first (digit ∷ next ∷ digits) some above = grind (arith, nat_tests)

no_leading_zero : (n : ℕ) → n < 2 ^ 64 → has_leading_zero (decimal n) ≡ false
no_leading_zero zero within = rw (decimal_digit 0 (omega arith)) refl
no_leading_zero (suc n) within =
    no_zero_first (decimal (suc n)) (decimal_nonempty (suc n) within) (first_decimal (suc n) (omega arith) within)

at_least : (low n : ℕ) → low ≤ n → nat_lt n low ≡ false
at_least low n least = grind (arith, nat_tests)

numeral_read : (low high n : ℕ) → low ≤ n → n ≤ high → n < 2 ^ 64 → numeral low high (decimal n) ≡ Some n
unfolding numeral
numeral_read low high n least most within =
    let told = decimal_is_IsNumeral n within in
    rw (
      no_leading_zero n within,
      digits_pass (decimal n) told.0.1,
      told.1,
      at_least low n least,
      at_least n high
          most,
    ) refl

-- what stands before an end
same_codes : (xs : List ℕ) → pointwise nat_eq xs xs ≡ true
same_codes [] = refl
same_codes (x ∷ xs) =
    let here : nat_eq x x ≡ true = grind (arith, nat_tests) in
    rw (here, same_codes xs) refl

before_end : (end inner : List ℕ) → before end (inner ++ end) ≡ Some inner
before_end end inner =
    let cut : length (inner ++ end) - length end ≡ length inner = omega (arith, length-append inner end) in
    rw (cut, drop-append_seam inner end, same_codes end, take-append_seam inner end) refl

-- a number in brackets
sized_read : (n : ℕ) → IsSize n
    → option_and_then (numeral 1 2147483647) (before (codes "]") (decimal n ++ codes "]")) ≡ Some n
sized_read n size =
    let within : n < 2 ^ 64 = omega (arith, size.most) in
    rw (before_end (codes "]") (decimal n)) (numeral_read 1 2147483647 n size.least size.most within)

pub transform_is_read : (transform : Transform) → IsTransform transform
    → transform_of (transform_text transform) ≡ Some transform
unfolding transform_of
transform_is_read Identity valid = refl
transform_is_read Void valid = refl
transform_is_read Year valid = refl
transform_is_read Month valid = refl
transform_is_read Day valid = refl
transform_is_read Hour valid = refl
transform_is_read (Bucket buckets) valid = rw (sized_read buckets valid) refl
transform_is_read (Truncate width) valid = rw (sized_read width valid) refl

-- the precision and the scale of a decimal stand at both sides of its comma
comma_after : (digits rest : List ℕ) → AllDigits 10 digits
    → position_or_len (λ byte. byte == 0x2C) (digits ++ 0x2C ∷ rest) ≡ length digits
comma_after [] rest all = refl
comma_after (digit ∷ digits) rest all =
    let other : (digit == 0x2C) ≡ false = grind (arith, nat_tests, all.0) in
    rw (other, comma_after digits rest all.1) (omega arith)

comma_read : (digits rest : List ℕ) → AllDigits 10 digits → comma_of (digits ++ 0x2C ∷ rest) ≡ Some (length digits)
comma_read digits rest all =
    let inside : nat_lt (length digits) (length (digits ++ 0x2C ∷ rest)) ≡ true = grind
    (arith, nat_tests, length-append digits (0x2C ∷ rest)) in
    rw (comma_after digits rest all, inside) refl

decimal_read : (precision scale : ℕ) → IsDecimal precision scale
    → decimal_of (kind_text (kind.Decimal precision scale)) ≡ Some (kind.Decimal precision scale)
decimal_read precision scale valid =
    let within : precision < 2 ^ 64 = omega (arith, valid.most) in
    let scaled : scale < 2 ^ 64 = omega (arith, valid.most, valid.scaled) in
    let least : 0 ≤ scale = omega arith in
    let digits = decimal precision in
    let rest = 0x20 ∷ decimal scale in
    let regrouped : digits ++ 0x2C ∷ 0x20 ∷ (decimal scale ++ codes ")") ≡ (digits ++ 0x2C ∷ rest) ++ codes ")" =
    sym (append_assoc digits (0x2C ∷ rest) (codes ")")) in
    rw (
      regrouped,
      before_end (codes ")") (digits ++ 0x2C ∷ rest),
      comma_read digits rest (decimal_is_IsNumeral precision within).0.1,
      take-append_seam digits (0x2C ∷ rest),
      drop-append-add digits (0x2C ∷ rest) 1,
      numeral_read 1 38 precision valid.least valid.most within,
      numeral_read 0 precision scale least valid.scaled scaled,
    ) refl

pub fixed_is_read : (length : ℕ) → IsSize length → kind_of (kind_text (kind.Fixed length)) ≡ Some (kind.Fixed length)
unfolding kind_of
fixed_is_read length valid = rw (sized_read length valid) refl

pub decimal_is_read : (precision scale : ℕ) → IsDecimal precision scale
    → kind_of (kind_text (kind.Decimal precision scale)) ≡ Some (kind.Decimal precision scale)
unfolding kind_of
decimal_is_read precision scale valid = decimal_read precision scale valid
