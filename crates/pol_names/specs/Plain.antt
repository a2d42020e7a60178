-- Plain names, and why a text is none.
use Rattle.std.specs.Prelude.{◌≡◌, ◌≢◌, ◌≤◌, ℕ, ◌||◌, ◌==◌, Bool, not, nat_lt, List, [], length, Option, Some, None, if◌then◌else◌}
use Rattle.std.specs.Bool.{⊤}
use Rattle.std.specs.Char.{is_ascii_alphanumeric}
use Rattle.std.specs.List.{AllPass, list_all}
use Rattle.pol_names.specs.declared.name.NameRefused.{NameRefused}
use Rattle.pol_names.specs.declared.name.NameRefused.TheVariants.{Empty, Long, NotPlain, OutOfMemory}

-- the bytes of plain names: `A`-`Z`, `a`-`z`, `0`-`9`, `_` and `-`
abbrev pub is_plain_byte : ℕ → Bool
is_plain_byte byte = is_ascii_alphanumeric byte || byte == 0x5F || byte == 0x2D

-- a plain name: 1 to 128 bytes, all of them such bytes
pub record IsPlainName (text : List ℕ) : Type 0 where
  pub filled : text ≢ []
  pub bounded : length text ≤ 128
  pub clean : AllPass is_plain_byte text

-- why a text is no plain name: the first of the refusals, in the order in which they are tried
unfoldable pub plain_refusal : List ℕ → Option NameRefused
plain_refusal text =
    if length text == 0 then Some Empty
    else if nat_lt 128 (length text) then Some Long
    else if not (list_all is_plain_byte text) then Some NotPlain
    else None

-- what a reader of plain names may answer in place of one: the first refusal, or want of memory
abbrev pub IsPlainRefusal : List ℕ → NameRefused → Type 0
IsPlainRefusal text OutOfMemory = ⊤
IsPlainRefusal text why = plain_refusal text ≡ Some why
