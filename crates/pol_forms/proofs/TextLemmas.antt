-- What is read as a text: bytes that are UTF-8, and no others.
use Rattle.std.proofs.Common.{◌≡◌, ℕ, Bool, true, false, List, Some, None, refl, ap, ◌∙◌}
use Rattle.std.specs.Str.{IsUtf8, is_utf8}
use Rattle.std.proofs.lemmas.Str.{IsUtf8-from_is_utf8, is_utf8-from_IsUtf8}
use Rattle.pol_forms.specs.Agreement.{bytes_read, number_read, then_reads}
use Rattle.pol_forms.specs.Forms.{byte_string, text}
use Rattle.pol_forms.specs.Reading.{Reading, front_of, only_if}

abbrev tested : List ℕ → List ℕ → Reading (List ℕ)
tested front = only_if (is_utf8 front) front

pub bytes_told : (bytes : List ℕ) (count : ℕ) (between front rest : List ℕ) → number_read bytes ≡ Some (count, between) → front_of count between ≡ Some (front, rest)
    → bytes_read bytes ≡ Some (front, rest)
bytes_told bytes count between front rest number is = then_reads (number_read bytes) front_of count between number ∙ is

pub text_told : (bytes front rest : List ℕ) → bytes_read bytes ≡ Some (front, rest) → IsUtf8 front → text.read bytes ≡ Some (front, rest)
unfolding text byte_string
text_told bytes front rest is right =
    then_reads (bytes_read bytes) tested front rest is ∙ ap (λ (b : Bool). only_if b front rest) (is_utf8-from_IsUtf8 front right)

refused : (front rest : List ℕ) → (IsUtf8 front → ⊥) → (b : Bool) → is_utf8 front ≡ b → only_if b front rest ≡ None
refused front rest wrong true is = absurd (wrong (IsUtf8-from_is_utf8 front is))
refused front rest wrong false is = refl

pub no_text_told : (bytes front rest : List ℕ) → bytes_read bytes ≡ Some (front, rest) → (IsUtf8 front → ⊥) → text.read bytes ≡ None
unfolding text byte_string
no_text_told bytes front rest is wrong =
    then_reads (bytes_read bytes) tested front rest is ∙ refused front rest wrong (is_utf8 front) refl
