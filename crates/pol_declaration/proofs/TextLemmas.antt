-- Texts that are UTF-8, and texts that aren't.
use Rattle.std.proofs.Common.{◌≡◌, ℕ, List, Bool, true, false, Ok, Err, IsUtf8, refl}
use Rattle.std.specs.Str.{is_utf8}
use Rattle.std.proofs.lemmas.Str.{IsUtf8-from_is_utf8, is_utf8-from_IsUtf8}
use Rattle.pol_declaration.specs.Reading.{must}
use Rattle.pol_declaration.specs.declared.fault.Fault.TheVariants.{NotUtf8}

pub utf8_holds : (text : List ℕ) → IsUtf8 text → must NotUtf8 (is_utf8 text) ≡ Ok tt
utf8_holds text is = rw (is_utf8-from_IsUtf8 text is) refl

other_told : (text : List ℕ) (b : Bool) → is_utf8 text ≡ b → ¬ (IsUtf8 text) → must NotUtf8 b ≡ Err NotUtf8
other_told text true is other = absurd (other (IsUtf8-from_is_utf8 text is))
other_told text false is other = refl

pub utf8_fails : (text : List ℕ) → ¬ (IsUtf8 text) → must NotUtf8 (is_utf8 text) ≡ Err NotUtf8
utf8_fails text other = other_told text (is_utf8 text) refl other
