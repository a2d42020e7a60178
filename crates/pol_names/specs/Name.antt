-- Names of tables, views and namespace levels, and why a text is none.
use Rattle.std.specs.Prelude.{◌≡◌, ◌≢◌, ◌≤◌, ℕ, ◌&&◌, ◌==◌, Bool, not, nat_le, nat_lt, List, [], length, Option, Some, None, if◌then◌else◌, codes}
use Rattle.std.specs.Bool.{⊤}
use Rattle.std.specs.List.{AllPass, list_all}
use Rattle.std.specs.Str.{IsUtf8}
use Rattle.pol_names.specs.declared.name.NameRefused.{NameRefused}
use Rattle.pol_names.specs.declared.name.NameRefused.TheVariants.{Empty, Long, ControlByte, NotPlain, OutOfMemory}

-- the bytes of names: those from 0x20 on but 0x7F
abbrev pub is_name_byte : ℕ → Bool
is_name_byte byte = nat_le 0x20 byte && not (byte == 0x7F)

-- a name: 1 to 128 bytes of UTF-8, all of them such bytes
pub record IsName (text : List ℕ) : Type 0 where
  pub filled : text ≢ []
  pub bounded : length text ≤ 128
  pub clean : AllPass is_name_byte text
  pub utf8 : IsUtf8 text

-- why a text is no name: the first of the refusals, in the order in which they are tried
unfoldable pub name_refusal : List ℕ → Option NameRefused
name_refusal text =
    if length text == 0 then Some Empty
    else if nat_lt 128 (length text) then Some Long
    else if not (list_all is_name_byte text) then Some ControlByte
    else None

-- the text of a refusal
abbrev pub name_refusal_text : NameRefused → List ℕ
name_refusal_text Empty = codes "the name is empty"
name_refusal_text Long = codes "the name has more than 128 bytes"
name_refusal_text ControlByte = codes "the name has a control byte"
name_refusal_text NotPlain = codes "the name has a byte that no plain name has"
name_refusal_text OutOfMemory = codes "out of memory"

-- what a reader of names may answer in place of one: the first refusal, or want of memory
abbrev pub IsNameRefusal : List ℕ → NameRefused → Type 0
IsNameRefusal text OutOfMemory = ⊤
IsNameRefusal text why = name_refusal text ≡ Some why
