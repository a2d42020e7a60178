-- Maps from texts to texts, as lists of pairs whose keys ascend.
use Rattle.std.specs.Prelude.{◌≡◌, ◌<◌, ◌≤◌, ℕ, suc, Bool, true, not, nat_eq, ◌&&◌, List, [], ◌∷◌, ◌++◌, length, take, drop, map, filter, Option, is_some}
use Rattle.std.specs.Cmp.{IsEquivalence, and_equiv, on_equiv}
use Rattle.std.specs.Cmp.Lexicographic.{nat_list_eq_equiv, pointwise, slice_cmp}
use Rattle.std.specs.FinMap as map_of
use Rattle.std.specs.List.{AllByRecursion, HoldsAt, find, fold, list_any}
use Rattle.std.specs.List.Sorted.{IsStrictlySortedBy}
use Rattle.std.specs.Option.{option_map}
use Rattle.std.specs.Ordering.{nat_cmp, is_gt, is_lt}
use Rattle.std.specs.Str.{bytes_eq}
use Rattle.std.specs.declared.cmp.Ordering.{Ordering}
use Rattle.std.specs.declared.cmp.Ordering.TheVariants.{Less, Equal, Greater}
use Rattle.pol_types.specs.Exact.{exactness}
use Rattle.pol_properties.specs.declared.property.Property.{Property}

-- how the key of a pair compares with a key, byte by byte, a proper prefix first
abbrev pub compared : List ℕ → Property → Ordering
compared key pair = slice_cmp nat_cmp pair.key key

-- whether this is the pair's key
abbrev pub has_key : List ℕ → Property → Bool
has_key key pair = bytes_eq pair.key key

-- each key is below those after it
abbrev pub KeysAscend : List Property → Type 0
KeysAscend pairs = IsStrictlySortedBy (λ left right. slice_cmp nat_cmp left.key right.key) pairs

-- whether two pairs are the same
abbrev pub same_pair : Property → Property → Bool
same_pair left right = pointwise nat_eq left.key right.key && pointwise nat_eq left.value right.value

pub same_pair_equiv : IsEquivalence same_pair
same_pair_equiv = and_equiv (on_equiv (λ pair. pair.key) nat_list_eq_equiv) (on_equiv (λ pair. pair.value) nat_list_eq_equiv)

pub same_pair_exact : (left right : Property) → same_pair left right ≡ true → left ≡ right
same_pair_exact left right same = grind exactness

-- the text under a key
abbrev pub value_of : List ℕ → List Property → Option (List ℕ)
value_of key pairs = option_map (λ pair. pair.value) (find (has_key key) pairs)

-- the pairs once a pair is put: those of lower keys, it, and those of higher keys
unfoldable pub with_value : Property → List Property → List Property
with_value pair pairs =
    filter (λ kept. is_lt (compared pair.key kept)) pairs ++ pair ∷ filter (λ kept. is_gt (compared pair.key kept)) pairs

-- the pairs of all other keys
unfoldable pub without_key : List ℕ → List Property → List Property
without_key key pairs = filter (λ kept. not (has_key key kept)) pairs

-- the map that pairs in any order make: each is put in turn, so of equal keys the last counts
abbrev pub of_pairs : List Property → List Property
of_pairs pairs = fold (λ made pair. with_value pair made) [] pairs

-- the keys of pairs, in the pairs' order
abbrev pub keys : List Property → List (List ℕ)
keys pairs = map (λ pair. pair.key) pairs

-- whether a key is among these
abbrev pub is_among : List (List ℕ) → List ℕ → Bool
is_among chosen key = list_any (λ other. bytes_eq other key) chosen

-- whether a pair has the key
abbrev pub has_value : List Property → List ℕ → Bool
has_value pairs key = is_some (value_of key pairs)

-- the set of these keys, in byte order: the keys of the map that has them, and nothing more under each
abbrev pub in_byte_order : List (List ℕ) → List (List ℕ)
in_byte_order chosen = map_of.keys (map_of.from_entries {R = slice_cmp nat_cmp} (map (λ key. (key, tt {0})) chosen))

-- the keys of the pairs that are among the removals
abbrev pub removed_keys : List (List ℕ) → List Property → List (List ℕ)
removed_keys removals pairs = keys (filter (λ pair. is_among removals pair.key) pairs)

-- the keys among the removals that no pair has, in byte order, each once
abbrev pub missing_keys : List (List ℕ) → List Property → List (List ℕ)
missing_keys removals pairs = in_byte_order (filter (λ key. not (has_value pairs key)) removals)

-- the pairs once each removal is removed and then each update is set
abbrev pub pairs_updated : List (List ℕ) → List Property → List Property → List Property
pairs_updated removals updates pairs =
    fold (λ made pair. with_value pair made) (filter (λ pair. not (is_among removals pair.key)) pairs) updates

-- the first of the removals that is also a key of the updates
abbrev pub twice : List (List ℕ) → List Property → Option (List ℕ)
twice removals updates = find (has_value updates) removals

-- the pairs around a place: those of lower keys before it, and those of higher keys from another place on
pub record IsAround (key : List ℕ) (pairs : List Property) (start end : ℕ) : Type 0 where
  pub lower : AllByRecursion (λ pair. compared key pair ≡ Less) (take start pairs)
  pub higher : AllByRecursion (λ pair. compared key pair ≡ Greater) (drop end pairs)

-- the pair of the key stands at this place
pub record IsAt (key : List ℕ) (pairs : List Property) (place : ℕ) : Type 0 where
  pub within : place < length pairs
  pub here : HoldsAt (λ pair. compared key pair ≡ Equal) pairs place
  pub around : IsAround key pairs place (suc place)

-- no pair has the key, and it would stand at this place
pub record IsGap (key : List ℕ) (pairs : List Property) (place : ℕ) : Type 0 where
  pub within : place ≤ length pairs
  pub around : IsAround key pairs place place
