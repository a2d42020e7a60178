-- How the text of an object's path and the object's bytes lie in memory.
use Rattle.std.specs.Prelude.{◌≡◌, ◌≤◌, ℕ, true, List, length, take, drop}
use Rattle.std.specs.Arc.{arc_value}
use Rattle.std.specs.Bool.{⊤}
use Rattle.std.specs.Str.{is_utf8}
use Rattle.pol_objects.specs.declared.content.Content.{Content}
use Rattle.pol_objects.specs.declared.content.Content.TheVariants.{Alone, Shared, Apart}

-- a text in UTF-8 of so many bytes, and others behind it
abbrev pub IsTextFirst : ℕ → List ℕ → Type 0
IsTextFirst many both = (many ≤ length both) × (is_utf8 (take many both) ≡ true)

abbrev pub parted : ℕ → List ℕ → List ℕ × List ℕ
parted many both = (take many both, drop many both)

-- the text and the bytes of an object
abbrev pub entry_of : Content → List ℕ × List ℕ
entry_of (Alone many both) = parted many both
entry_of (Shared many both) = parted many (arc_value both)
entry_of (Apart long) = (long.value.text, long.value.bytes)

abbrev pub IsContent : Content → Type 0
IsContent (Alone many both) = IsTextFirst many both
IsContent (Shared many both) = IsTextFirst many (arc_value both)
IsContent (Apart long) = ⊤
