-- Members of objects, each with its key.
use Rattle.std.specs.Prelude.{ℕ, List, map}
use Rattle.std.specs.Cmp.Lexicographic.{slice_cmp}
use Rattle.std.specs.List.Sorted.{IsStrictlySortedBy}
use Rattle.std.specs.Ordering.{nat_cmp}

-- the keys
abbrev pub keys : {A : Type 0} → List (List ℕ × A) → List (List ℕ)
keys entries = map (λ entry. entry.0) entries

-- each key is below those after it, byte by byte
abbrev pub KeysRise : {A : Type 0} → List (List ℕ × A) → Type 0
KeysRise entries = IsStrictlySortedBy (slice_cmp nat_cmp) (keys entries)
