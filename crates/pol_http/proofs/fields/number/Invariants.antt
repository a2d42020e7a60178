use Rattle.std.proofs.Common.{◌≡◌, ◌+◌, true, take, min}
use Rattle.std.specs.List.{list_all}
use Rattle.std.specs.Char.{is_ascii_digit}
use Rattle.std.specs.Str.Parse.{digits_value}
use Rattle.pol_http.specs.declared.head.TheConstants.{BODY_LIMIT}
use Rattle.pol_http.proofs.fields.number.Given as goal

abbrev pub invariant-loop-digit : goal.invariant-loop-digit
invariant-loop-digit l =
    (list_all is_ascii_digit (take l.digit-index l.digits) ≡ true)
    × (l.value ≡ min (BODY_LIMIT + 1) (digits_value 10 (take l.digit-index l.digits)))
