use Rattle.std.proofs.Common.{◌≡◌, ◌+◌, take, min}
use Rattle.std.specs.Str.Parse.{digits_value}
use Rattle.pol_metajson.specs.declared.numeral.TheConstants.{HIGHEST}
use Rattle.pol_metajson.proofs.numeral.value_of.Given as goal

abbrev pub invariant-loop-digit : goal.invariant-loop-digit
invariant-loop-digit l = l.value ≡ min (HIGHEST + 1) (digits_value 10 (take l.digit-index l.digits))
