-- A text with bytes behind it.
use Rattle.std.proofs.Common.{◌≡◌, ℕ, List, ◌++◌, length, take, ap, ◌∙◌, arith, length-append}
use Rattle.std.specs.Str.{IsUtf8, is_utf8}
use Rattle.std.proofs.Math.Seq.{take-append_seam}
use Rattle.std.proofs.lemmas.Str.{is_utf8-from_IsUtf8}
use Rattle.pol_objects.specs.Contents.{IsTextFirst}

pub text-first : (text bytes both : List ℕ) → both ≡ text ++ bytes → IsUtf8 text → IsTextFirst (length text) both
text-first text bytes both is utf8 = (
  omega (arith, ap length is, length-append text bytes),
  ap (λ some. is_utf8 (take (length text) some)) is ∙ ap is_utf8 (take-append_seam text bytes) ∙ is_utf8-from_IsUtf8 text utf8,
)
