-- The entries of objects, which stand in blocks in byte order of their texts, and where a search for a text ends.
use Rattle.std.specs.Prelude.{◌≡◌, ℕ, Bool, true, false, List, length, Option, Some, slice_get}
use Rattle.std.specs.List.{AllWithin}
use Rattle.std.specs.List.Sorted.{IsStrictlySortedBy}
use Rattle.std.specs.Map.{keys_of, lookup}
use Rattle.std.specs.Ordering.{is_eq, is_lt}
use Rattle.pol_blocks.specs.Blocks.{IsPlace, flat, number_of}
use Rattle.pol_blocks.specs.declared.place.Place.{Place}
use Rattle.pol_objects.specs.Objects.{byte_order}

-- the texts of entries rise strictly
abbrev pub IsRising : List (List ℕ × List ℕ) → Type 0
IsRising entries = IsStrictlySortedBy byte_order (keys_of entries)

-- the bytes that are kept under a text
abbrev pub bytes_under : List (List ℕ × List ℕ) → List ℕ → Option (List ℕ)
bytes_under entries text = lookup (λ key. is_eq (byte_order text key)) entries

-- whether the text of an entry is below this one
abbrev pub is_below : List ℕ → List ℕ × List ℕ → Bool
is_below text entry = is_lt (byte_order entry.0 text)

-- a place parts entries by a text: those in front of it are below the text, and no other is
pub record IsParting (text : List ℕ) (blocks : List (List (List ℕ × List ℕ))) (place : Place) : Type 0 where
  pub within : IsPlace blocks place
  pub front : AllWithin (λ entry. is_below text entry ≡ true) (flat blocks) 0 (number_of blocks place)
  pub behind : AllWithin (λ entry. is_below text entry ≡ false) (flat blocks) (number_of blocks place) (length (flat blocks))

-- the entry of a text stands at a place
pub record StandsAt (text : List ℕ) (blocks : List (List (List ℕ × List ℕ))) (place : Place) : Type 0 where
  pub parting : IsParting text blocks place
  pub bytes : List ℕ
  pub here : slice_get (flat blocks) (number_of blocks place) ≡ Some (text, bytes)
