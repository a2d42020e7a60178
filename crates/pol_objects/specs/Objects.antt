-- Objects in byte order of their texts: one is found, added or taken away, and those that a path covers.
use Rattle.std.specs.Prelude.{◌≡◌, ℕ, Bool, not, List, [], ◌∷◌, ◌++◌, length, map, filter, Option, None, Some, if◌then◌else◌}
use Rattle.std.specs.BTreeMap.Range.{range_contains}
use Rattle.std.specs.Cmp.Lexicographic.{slice_cmp}
use Rattle.std.specs.List.{AllByRecursion, find, sum_by}
use Rattle.std.specs.List.Sorted.{IsStrictlySortedBy}
use Rattle.std.specs.Map.{keys_of}
use Rattle.std.specs.Ordering.{is_eq, is_lt, nat_cmp}
use Rattle.std.specs.declared.cmp.Ordering.{Ordering}
use Rattle.std.specs.declared.ops.Bound.TheVariants.{Included, Excluded}
use Rattle.pol_locations.specs.Location.{IsLocation, is_cover, location_text, segments_of}

-- an object: where it is, and its bytes
pub record Object : Type 0 where
  pub path : List (List ℕ)
  pub bytes : List ℕ

-- byte order, in which a proper prefix is first
abbrev pub byte_order : List ℕ → List ℕ → Ordering
byte_order left right = slice_cmp nat_cmp left right

-- how a text stands to that of an object's path, and whether it is that one
abbrev pub order_at : List ℕ → Object → Ordering
order_at text object = byte_order text (location_text object.path)

abbrev pub has_text : List ℕ → Object → Bool
has_text text object = is_eq (order_at text object)

-- whether an object is at this path. Different locations have different texts, so the texts tell
abbrev pub is_at : List (List ℕ) → Object → Bool
is_at path object = has_text (location_text path) object

-- a text is that of a path
abbrev pub IsKey : List ℕ → Type 0
IsKey text = (path : List (List ℕ)) × (text ≡ location_text path)

-- the object at a path
abbrev pub object_at : List Object → List (List ℕ) → Option Object
object_at objects path = find (is_at path) objects

-- the objects with one more, in front of the first whose text is above its own
abbrev pub with_object : Object → List Object → List Object
with_object object [] = object ∷ []
with_object object (first ∷ objects) =
    if is_lt (order_at (location_text object.path) first) then object ∷ first ∷ objects else first ∷ with_object object objects

-- the objects but the one at this path
abbrev pub without_object : List (List ℕ) → List Object → List Object
without_object path objects = filter (λ object. not (is_at path object)) objects

-- the paths of the objects that a path covers, in their order
abbrev pub paths_under : List Object → List (List ℕ) → List (List (List ℕ))
paths_under objects path = map (λ object. object.path) (filter (λ object. is_cover path object.path) objects)

-- how many bytes objects have together
abbrev pub total_length : List Object → ℕ
total_length objects = sum_by (λ object. length object.bytes) objects

-- the object of these bytes at a path
abbrev pub object_with : List (List ℕ) → List ℕ → Object
object_with path bytes = record { path = path; bytes = bytes }

-- the objects whose bytes are kept under the texts of their paths
abbrev pub kept_object : List ℕ × List ℕ → Object
kept_object entry = object_with (segments_of entry.0) entry.1

abbrev pub kept_objects : List (List ℕ × List ℕ) → List Object
kept_objects entries = map kept_object entries

-- the bytes of an object under the text of its path
abbrev pub keyed : Object → List ℕ × List ℕ
keyed object = (location_text object.path, object.bytes)

-- how objects are kept: each under its text, the texts strictly rising, and each path a location
pub record IsKept (entries : List (List ℕ × List ℕ)) : Type 0 where
  pub under : entries ≡ map keyed (kept_objects entries)
  pub rising : IsStrictlySortedBy byte_order (keys_of entries)
  pub located : AllByRecursion (λ object. IsLocation object.path) (kept_objects entries)

-- whether a text is between another one with `/` and with `0`, the next byte, behind it
abbrev pub is_between : List ℕ → List ℕ → Bool
is_between text other = range_contains byte_order (Included (text ++ 0x2F ∷ [])) (Excluded (text ++ 0x30 ∷ [])) other

-- this path, where something was found at it
abbrev pub path_of : {A : Type 0} → List (List ℕ) → Option A → List (List (List ℕ))
path_of path None = []
path_of path (Some found) = path ∷ []

-- the paths of the entries that go on behind a text with a `/`
abbrev pub paths_behind : List ℕ → List (List ℕ × List ℕ) → List (List (List ℕ))
paths_behind text entries = map (λ entry. segments_of entry.0) (filter (λ entry. is_between text entry.0) entries)
