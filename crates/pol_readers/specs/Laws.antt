-- Laws of forms: each is exact where its parts are, and none sees keys that it doesn't name.
use Rattle.std.specs.Prelude.{◌≡◌, ◌≢◌, ℕ, List, Some, IsUtf8}
use Rattle.serde_json.specs.Data.{Data, object, Members, put}
use Rattle.serde_json.specs.Read.{read}
use Rattle.pol_readers.specs.declared.path.Step.TheVariants.{Key}
use Rattle.pol_readers.specs.Reading.{bad, under}
use Rattle.pol_readers.specs.Forms as form
use Rattle.pol_readers.specs.Grammar.{Exact, IsObject, IsText, IsTruth, IsWhole, IsOrMinusOne, IsOneOf, IsFixed, HasField, MayHaveField, IsList, HasEntries, IsBody}
use Rattle.pol_readers.specs.Shape.{Shape}

abbrev pub ObjectsAreExact : Type 0
ObjectsAreExact = Exact form.is_object IsObject

abbrev pub TextsAreExact : Type 0
TextsAreExact = Exact form.text IsText

abbrev pub TruthValuesAreExact : Type 0
TruthValuesAreExact = Exact form.truth IsTruth

abbrev pub NumbersAreExact : Type 0
NumbersAreExact = (low high : ℕ) → Exact (form.whole_number low high) (IsWhole low high)

abbrev pub NumbersOrMinusOneAreExact : {A : Type 0} → Shape A → Type 0
NumbersOrMinusOneAreExact shape = Exact (form.or_minus_one shape.read) (IsOrMinusOne shape.stands)

abbrev pub WordsAreExact : {A : Type 0} → List (List ℕ × A) → Type 0
WordsAreExact words = Exact (form.one_of words) (IsOneOf words)

abbrev pub FixedWordsAreExact : Type 0
FixedWordsAreExact = (word : List ℕ) → Exact (form.fixed word) (IsFixed word)

abbrev pub FieldsAreExact : {A : Type 0} → Shape A → Type 0
FieldsAreExact shape = (key : List ℕ) → Exact (form.field key shape.read) (HasField key shape.stands)

abbrev pub OptionalFieldsAreExact : {A : Type 0} → Shape A → Type 0
OptionalFieldsAreExact shape = (key : List ℕ) → Exact (form.optional key shape.read) (MayHaveField key shape.stands)

abbrev pub ListsAreExact : {A : Type 0} → Shape A → Type 0
ListsAreExact shape = Exact (form.list shape.read) (IsList shape.stands)

abbrev pub EntriesAreExact : {A : Type 0} → Shape A → Type 0
EntriesAreExact shape = Exact (form.entries shape.read) (HasEntries shape.stands)

abbrev pub WholesAreExact : {A : Type 0} → Shape A → Type 0
WholesAreExact shape = Exact (form.whole shape.read) shape.stands

abbrev pub BodiesAreExact : {A : Type 0} → Shape A → Type 0
BodiesAreExact shape = Exact (form.body shape.read) (IsBody shape.stands)

-- bytes that aren't an object in JSON and UTF-8 are bad as a whole
abbrev pub OtherBodiesAreBad : {A : Type 0} → Shape A → Type 0
OtherBodiesAreBad shape =
    (bytes : List ℕ) → ((ms : Members) → IsUtf8 bytes → read bytes ≢ Some (object ms)) → form.body shape.read bytes ≡ bad

-- a field reads what was put at its key last
abbrev pub LastOfEqualKeysCounts : {A : Type 0} → Shape A → Type 0
LastOfEqualKeysCounts shape =
    (key : List ℕ) (d : Data) (ms : Members) → form.field key shape.read (object (put key d ms)) ≡ under (Key key) (shape.read d)

-- what was put at another key is nothing to a field
abbrev pub OtherKeysAreIgnored : {A : Type 0} → Shape A → Type 0
OtherKeysAreIgnored shape =
    (key other : List ℕ) (d : Data) (ms : Members)
    → key ≢ other
    → (form.field key shape.read (object (put other d ms)) ≡ form.field key shape.read (object ms))
    × (form.optional key shape.read (object (put other d ms)) ≡ form.optional key shape.read (object ms))
