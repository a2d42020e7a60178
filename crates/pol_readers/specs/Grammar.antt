-- The grammars of forms: which values of JSON (RFC 8259) stand for a value, as relations.
use Rattle.std.specs.Prelude.{◌≡◌, ◌≢◌, ◌⊎◌, ℕ, ◌≤◌, negsuc, List, [], ◌∷◌, Bool, Option, Some, None, Ok, ⊤, IsUtf8}
use Rattle.serde_json.specs.Data.{Data, null, boolean, number, string, array, object, unsigned, negative, Items, no_items, item, Members, no_members, member}
use Rattle.serde_json.specs.Find.{get}
use Rattle.serde_json.specs.Read.{read}
use Rattle.pol_readers.specs.declared.minus_one.OrMinusOne.{OrMinusOne}
use Rattle.pol_readers.specs.declared.minus_one.OrMinusOne.TheVariants.{MinusOne, Other}
use Rattle.pol_readers.specs.Reading.{Reading}

-- the form reads a value exactly where the grammar relates the two
pub record Exact {S A : Type 0} (form : S → Reading A) (grammar : S → A → Type 0) : Type 0 where
  pub sound : (s : S) (value : A) → form s ≡ Ok value → grammar s value
  pub complete : (s : S) (value : A) → grammar s value → form s ≡ Ok value

-- one part after another: what is read of the first may be asked for by the second
abbrev pub Then : {S A B : Type 0} → (S → A → Type 0) → (A → S → B → Type 0) → S → B → Type 0
Then {S} {A} first second s value = (found : A) × (first s found) × (second found s value)

abbrev pub IsObject : Data → ⊤ → Type 0
IsObject d nothing = (ms : Members) × (d ≡ object ms)

abbrev pub IsText : Data → List ℕ → Type 0
IsText d text = d ≡ string text

abbrev pub IsTruth : Data → Bool → Type 0
IsTruth d truth = d ≡ boolean truth

abbrev pub IsWhole : ℕ → ℕ → Data → ℕ → Type 0
IsWhole low high d n = (d ≡ number (unsigned n)) × (low ≤ n) × (n ≤ high)

abbrev pub IsOrMinusOne : {A : Type 0} → (Data → A → Type 0) → Data → OrMinusOne A → Type 0
IsOrMinusOne grammar d MinusOne = d ≡ number (negative (negsuc 0))
IsOrMinusOne grammar d (Other value) = (d ≢ number (negative (negsuc 0))) × grammar d value

-- the first row of that word has that meaning
abbrev pub Means : {A : Type 0} → List (List ℕ × A) → List ℕ → A → Type 0
Means [] word value = ⊥
Means (row ∷ rows) word value = ((row.0 ≡ word) × (row.1 ≡ value)) ⊎ ((row.0 ≢ word) × Means rows word value)

abbrev pub IsOneOf : {A : Type 0} → List (List ℕ × A) → Data → A → Type 0
IsOneOf rows d value = (word : List ℕ) × (d ≡ string word) × Means rows word value

abbrev pub IsFixed : List ℕ → Data → ⊤ → Type 0
IsFixed word d nothing = d ≡ string word

abbrev pub HasField : {A : Type 0} → List ℕ → (Data → A → Type 0) → Data → A → Type 0
HasField key grammar d value = (held : Data) × (get key d ≡ Some held) × grammar held value

-- absent or null, or a value of the grammar
abbrev pub MayHold : {A : Type 0} → (Data → A → Type 0) → Option Data → Option A → Type 0
MayHold grammar o None = (o ≡ None) ⊎ (o ≡ Some null)
MayHold grammar o (Some value) = (held : Data) × (o ≡ Some held) × (held ≢ null) × grammar held value

abbrev pub MayHaveField : {A : Type 0} → List ℕ → (Data → A → Type 0) → Data → Option A → Type 0
MayHaveField key grammar d = MayHold grammar (get key d)

abbrev pub AreItems : {A : Type 0} → (Data → A → Type 0) → Items → List A → Type 0
AreItems grammar no_items [] = ⊤
AreItems grammar no_items (value ∷ values) = ⊥
AreItems grammar (item d ds) [] = ⊥
AreItems grammar (item d ds) (value ∷ values) = (grammar d value) × AreItems grammar ds values

abbrev pub IsList : {A : Type 0} → (Data → A → Type 0) → Data → List A → Type 0
IsList grammar d values = (ds : Items) × (d ≡ array ds) × AreItems grammar ds values

abbrev pub AreMembers : {A : Type 0} → (Data → A → Type 0) → Members → List (List ℕ × A) → Type 0
AreMembers grammar no_members [] = ⊤
AreMembers grammar no_members (entry ∷ entries) = ⊥
AreMembers grammar (member key d ms) [] = ⊥
AreMembers grammar (member key d ms) (entry ∷ entries) = (entry.0 ≡ key) × (grammar d entry.1) × AreMembers grammar ms entries

abbrev pub HasEntries : {A : Type 0} → (Data → A → Type 0) → Data → List (List ℕ × A) → Type 0
HasEntries grammar d entries = (ms : Members) × (d ≡ object ms) × AreMembers grammar ms entries

-- the bytes are JSON in UTF-8, which nests no deeper than the reader allows, and an object
abbrev pub IsBody : {A : Type 0} → (Data → A → Type 0) → List ℕ → A → Type 0
IsBody grammar bytes value =
    (d : Data) × IsUtf8 bytes × (read bytes ≡ Some d) × ((ms : Members) × (d ≡ object ms)) × grammar d value
