-- Forms: what a value of TOML stands for.
use Rattle.std.specs.Prelude.{ℕ, suc, Bool, unwrap_or, List, [], ◌∷◌, not, find, Option, Some, None, Ok, Err, ⊤}
use Rattle.std.specs.List.{list_any}
use Rattle.std.specs.Str.{bytes_eq}
use Rattle.toml.specs.Data.{Data, Items, no_items, item, Members, no_members, member, get, as_str, as_array, as_table}
use Rattle.pol_readers.specs.declared.path.Step.TheVariants.{Key, Place}
use Rattle.pol_declaration.specs.declared.fault.Fault.TheVariants.{At}
use Rattle.pol_declaration.specs.declared.fault.Why.{Why}
use Rattle.pol_declaration.specs.declared.fault.Why.TheVariants.{Missing, Unlisted, NotText, NotList, NotTable}
use Rattle.pol_declaration.specs.Reading.{Reading, ◌>>=◌, bad, must, under}

-- the value, where there is one
abbrev pub found : {A : Type 0} → Why → Option A → Reading A
found why None = bad why
found why (Some value) = Ok value

-- a rule that the value itself must meet
abbrev pub holds : Why → Bool → Reading ⊤
holds why = must (At [] why)

unfoldable pub text : Data → Reading (List ℕ)
text d = found NotText (as_str d)

-- the keys of the members, in their order, which is that of their bytes
abbrev pub keys_of : Members → List (List ℕ)
keys_of no_members = []
keys_of (member key d ms) = key ∷ keys_of ms

-- whether a key is one of the listed ones
abbrev pub is_listed : List (List ℕ) → List ℕ → Bool
is_listed listed key = list_any (λ one. bytes_eq one key) listed

-- a key that isn't listed is wrong
abbrev pub unlisted : Option (List ℕ) → Reading ⊤
unlisted None = Ok tt
unlisted (Some key) = Err (At (Key key ∷ []) Unlisted)

-- the first key that isn't listed is wrong
unfoldable pub only_listed : List (List ℕ) → Members → Reading ⊤
only_listed listed ms = unlisted (find (λ key. not (is_listed listed key)) (keys_of ms))

-- a table that has no keys but the listed ones
unfoldable pub table : List (List ℕ) → Data → Reading ⊤
table listed d = do
  ms ← found NotTable (as_table d)
  only_listed listed ms

-- a key that must be there
unfoldable pub field : {A : Type 0} → List ℕ → (Data → Reading A) → Data → Reading A
field key form d = under (Key key) (found Missing (get key d) >>= form)

-- a key that may be absent
abbrev pub if_there : {A : Type 0} → (Data → Reading A) → Option Data → Reading (Option A)
if_there form None = Ok None
if_there form (Some d) = do
  value ← form d
  Ok (Some value)

unfoldable pub optional : {A : Type 0} → List ℕ → (Data → Reading A) → Data → Reading (Option A)
optional key form d = under (Key key) (if_there form (get key d))

-- the members of a list, of which the first has that place
abbrev pub items : {A : Type 0} → (Data → Reading A) → ℕ → Items → Reading (List A)
items form place no_items = Ok []
items form place (item d ds) = do
  value ← under (Place place) (form d)
  values ← items form (suc place) ds
  Ok (value ∷ values)

unfoldable pub list : {A : Type 0} → (Data → Reading A) → Data → Reading (List A)
list form d = do
  ds ← found NotList (as_array d)
  items form 0 ds

-- a list that is empty where its key is absent
unfoldable pub listed : {A : Type 0} → List ℕ → (Data → Reading A) → Data → Reading (List A)
listed key form d = do
  values ← optional key (list form) d
  Ok (unwrap_or values [])
