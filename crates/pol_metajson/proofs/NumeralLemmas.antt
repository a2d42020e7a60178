-- How the number that digits are grows by a digit.
use Rattle.std.proofs.Common.{◌≡◌, ℕ, ◌+◌, ◌-◌, ◌*◌, ◌<◌, true, List, min, take, get_or, length, arith}
use Rattle.std.specs.Char.{digit_value, is_ascii_digit}
use Rattle.std.specs.Str.Parse.{digits_value}
use Rattle.std.proofs.lemmas.Bool.Decides.{nat_tests}
use Rattle.std.proofs.lemmas.Int.Digits.{digits_value_more}

digit_weight : (byte : ℕ) → is_ascii_digit byte ≡ true → digit_value byte + 48 ≡ byte
digit_weight byte digit = grind (arith, nat_tests)

-- one more digit on a number that is cut off at a bound
pub value_more : (digits : List ℕ) (i bound value : ℕ) → i < length digits → 0 < bound
    → is_ascii_digit (get_or digits i 0) ≡ true → value ≡ min bound (digits_value 10 (take i digits))
    → min (value * 10 + (get_or digits i 0 - 48)) bound ≡ min bound (digits_value 10 (take (i + 1) digits))
value_more digits i bound value inside some digit so_far =
    let weighs : get_or digits i 0 - 48 ≡ digit_value (get_or digits i 0) =
    omega (arith, digit_weight (get_or digits i 0) digit) in
    rw (digits_value_more 10 digits i inside)
    (add (digits_value 10 (take i digits)) (digit_value (get_or digits i 0)) (get_or digits i 0 - 48) so_far weighs)
  where
    add : (before weight code : ℕ) → value ≡ min bound before → code ≡ weight
        → min (value * 10 + code) bound ≡ min bound (before * 10 + weight)
    add before weight code is same = omega arith
