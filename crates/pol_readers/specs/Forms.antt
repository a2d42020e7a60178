-- Forms: what a value of JSON (RFC 8259) stands for.
use Rattle.std.specs.Prelude.{ℕ, zero, suc, ℤ, pos, negsuc, List, [], ◌∷◌, Bool, true, false, ◌&&◌, nat_le, is_some, Option, Some, None, option_map, option_and_then, find, if◌then◌else◌, Ok, ⊤}
use Rattle.std.specs.Str.{bytes_eq, is_utf8}
use Rattle.serde_json.specs.Data.{Data, null, boolean, number, string, array, object, Items, no_items, item, Members, no_members, member}
use Rattle.serde_json.specs.Find.{get, as_bool, as_number, as_str, as_array, as_object, as_i64, as_u64}
use Rattle.serde_json.specs.Read.{read}
use Rattle.pol_readers.specs.declared.minus_one.OrMinusOne.{OrMinusOne}
use Rattle.pol_readers.specs.declared.minus_one.OrMinusOne.TheVariants.{MinusOne, Other}
use Rattle.pol_readers.specs.declared.path.Step.TheVariants.{Key, Place}
use Rattle.pol_readers.specs.Reading.{Reading, ◌>>=◌, bad, found, under, as_one}

-- a rule that what was read must meet
unfoldable pub holds : Bool → Reading ⊤
holds true = Ok tt
holds false = bad

unfoldable pub is_object : Data → Reading ⊤
is_object d = holds (is_some (as_object d))

unfoldable pub text : Data → Reading (List ℕ)
text d = found (as_str d)

unfoldable pub truth : Data → Reading Bool
truth d = found (as_bool d)

-- the number, where it is within the bounds, which are included
abbrev pub within : ℕ → ℕ → ℕ → Option ℕ
within low high n = if nat_le low n && nat_le n high then Some n else None

-- a whole number, written without sign, fraction and exponent
unfoldable pub whole_number : ℕ → ℕ → Data → Reading ℕ
whole_number low high d =
    found (option_and_then (within low high) (option_and_then as_u64 (as_number d)))

-- the number is -1
abbrev pub is_minus_one : Option ℤ → Bool
is_minus_one None = false
is_minus_one (Some (pos n)) = false
is_minus_one (Some (negsuc zero)) = true
is_minus_one (Some (negsuc (suc n))) = false

-- -1, written as a whole number, or a value of another form
unfoldable pub or_minus_one : {A : Type 0} → (Data → Reading A) → Data → Reading (OrMinusOne A)
or_minus_one form d = if is_minus_one (option_and_then as_i64 (as_number d)) then Ok MinusOne else (do
  value ← form d
  Ok (Other value))

-- what stands beside the word in the first row that has it
abbrev pub meaning : {A : Type 0} → List (List ℕ × A) → List ℕ → Option A
meaning rows word = option_map (λ row. row.1) (find (λ row. bytes_eq row.0 word) rows)

unfoldable pub one_of : {A : Type 0} → List (List ℕ × A) → Data → Reading A
one_of rows d = do
  word ← text d
  found (meaning rows word)

-- a text that must be that word
unfoldable pub fixed : List ℕ → Data → Reading ⊤
fixed word = one_of ((word, tt) ∷ [])

-- a field that must be there
unfoldable pub field : {A : Type 0} → List ℕ → (Data → Reading A) → Data → Reading A
field key form d = under (Key key) (found (get key d) >>= form)

-- a null stands for an absent value
abbrev pub present : Option Data → Option Data
present None = None
present (Some null) = None
present (Some (boolean b)) = Some (boolean b)
present (Some (number n)) = Some (number n)
present (Some (string s)) = Some (string s)
present (Some (array ds)) = Some (array ds)
present (Some (object ms)) = Some (object ms)

-- a value that may be absent
abbrev pub if_present : {A : Type 0} → (Data → Reading A) → Option Data → Reading (Option A)
if_present form None = Ok None
if_present form (Some d) = do
  value ← form d
  Ok (Some value)

-- a field that may be absent or null
unfoldable pub optional : {A : Type 0} → List ℕ → (Data → Reading A) → Data → Reading (Option A)
optional key form d = under (Key key) (if_present form (present (get key d)))

-- the members of a list, of which the first has that place
abbrev pub items : {A : Type 0} → (Data → Reading A) → ℕ → Items → Reading (List A)
items form place no_items = Ok []
items form place (item d ds) = do
  value ← under (Place place) (form d)
  values ← items form (suc place) ds
  Ok (value ∷ values)

unfoldable pub list : {A : Type 0} → (Data → Reading A) → Data → Reading (List A)
list form d = do
  ds ← found (as_array d)
  items form 0 ds

-- the members of an object, in their order, which is that of their keys
abbrev pub members : {A : Type 0} → (Data → Reading A) → Members → Reading (List (List ℕ × A))
members form no_members = Ok []
members form (member key d ms) = do
  value ← under (Key key) (form d)
  values ← members form ms
  Ok ((key, value) ∷ values)

unfoldable pub entries : {A : Type 0} → (Data → Reading A) → Data → Reading (List (List ℕ × A))
entries form d = do
  ms ← found (as_object d)
  members form ms

-- a value as one field, into which no path goes
unfoldable pub whole : {A : Type 0} → (Data → Reading A) → Data → Reading A
whole form d = as_one (form d)

-- the value that a body is: JSON in UTF-8, which nests no deeper than the reader allows; of two equal keys the last counts
abbrev pub data_of : List ℕ → Option Data
data_of bytes = if is_utf8 bytes then read bytes else None

-- a body, which must be an object
unfoldable pub body : {A : Type 0} → (Data → Reading A) → List ℕ → Reading A
body form bytes = do
  d ← found (data_of bytes)
  _ ← is_object d
  form d
