-- Laws of maps from texts to texts.
use Rattle.std.specs.Prelude.{◌≡◌, ℕ, false, not, ◌&&◌, if◌then◌else◌, List, None, Some}
use Rattle.std.specs.Cmp.Lexicographic.{slice_cmp}
use Rattle.std.specs.List.Sorted.{IsStrictlySortedBy}
use Rattle.std.specs.Option.{option_or}
use Rattle.std.specs.Ordering.{nat_cmp}
use Rattle.std.specs.Str.{bytes_eq}
use Rattle.pol_properties.specs.Properties.{KeysAscend, has_value, is_among, missing_keys, pairs_updated, value_of, with_value, without_key}
use Rattle.pol_properties.specs.declared.property.Property.{Property}

-- the key of a pair that is put has the pair's value
abbrev pub ValueIsSet : Type 0
ValueIsSet = (pair : Property) (pairs : List Property) → value_of pair.key (with_value pair pairs) ≡ Some pair.value

-- every other key has the value that it had before
abbrev pub OtherKeysStay : Type 0
OtherKeysStay =
    (key : List ℕ) (pair : Property) (pairs : List Property) → bytes_eq pair.key key ≡ false → value_of key (with_value pair pairs) ≡ value_of key pairs

-- a key that is taken away has no value
abbrev pub RemovedKeyIsGone : Type 0
RemovedKeyIsGone = (key : List ℕ) (pairs : List Property) → value_of key (without_key key pairs) ≡ None

-- every other key keeps its value
abbrev pub OtherKeysStayWithout : Type 0
OtherKeysStayWithout =
    (key gone : List ℕ) (pairs : List Property) → bytes_eq gone key ≡ false → value_of key (without_key gone pairs) ≡ value_of key pairs

-- maps in which each key has the same value are one map
abbrev pub EqualLookUpsAreEqualMaps : Type 0
EqualLookUpsAreEqualMaps =
    (left right : List Property) → KeysAscend left → KeysAscend right → ((key : List ℕ) → value_of key left ≡ value_of key right) → left ≡ right

-- after an update each key has the text that the update has under it; else nothing, where it is removed; else what it
-- had
abbrev pub ValuesAreUpdated : Type 0
ValuesAreUpdated =
    (key : List ℕ) (removals : List (List ℕ)) (updates pairs : List Property) → KeysAscend updates
    → value_of key (pairs_updated removals updates pairs) ≡ option_or (value_of key updates) (if is_among removals key then None else value_of key pairs)

-- the missing keys are those among the removals that no pair has
abbrev pub MissingKeysAreThose : Type 0
MissingKeysAreThose =
    (key : List ℕ) (removals : List (List ℕ)) (pairs : List Property) → is_among (missing_keys removals pairs) key ≡ (is_among removals key && not (has_value pairs key))

-- each of them is below those after it, so none stands twice
abbrev pub MissingKeysAscend : Type 0
MissingKeysAscend =
    (removals : List (List ℕ)) (pairs : List Property) → IsStrictlySortedBy (slice_cmp nat_cmp) (missing_keys removals pairs)
