-- Numbers that stand in words.
use Rattle.std.specs.Prelude.{ℕ, Bool, true, false, ◌||◌, ◌==◌, not, nat_lt, List, [], ◌∷◌, Option, Some, None, if◌then◌else◌}
use Rattle.std.specs.Char.{is_ascii_digit}
use Rattle.std.specs.List.{list_all}
use Rattle.std.specs.Str.Parse.{digits_value}

-- whether there are no digits, or a zero before others
abbrev pub has_leading_zero : List ℕ → Bool
has_leading_zero [] = true
has_leading_zero (digit ∷ []) = false
has_leading_zero (digit ∷ next ∷ digits) = digit == 0x30

-- the number within these bounds that digits are, without leading zeros
unfoldable pub numeral : ℕ → ℕ → List ℕ → Option ℕ
numeral low high digits =
    if has_leading_zero digits || not (list_all is_ascii_digit digits) then None
    else if nat_lt (digits_value 10 digits) low || nat_lt high (digits_value 10 digits) then None
    else Some (digits_value 10 digits)
