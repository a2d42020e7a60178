-- Laws of forms.
use Rattle.std.specs.Prelude.{◌≡◌, ◌↔◌, ℕ, List, ◌++◌, Some}
use Rattle.pol_forms.specs.Form.{AreBytes, Form, IsFormOf, whole}

-- what is written of a value is read back, whatever follows it
abbrev pub ReadsBack : {A : Type 0} → Form A → Type 0
ReadsBack {A} form = (value : A) (rest : List ℕ) → form.holds value → form.read (form.write value ++ rest) ≡ Some (value, rest)

-- bytes begin with the form of one value at most, and in one way
abbrev pub IsCutOnce : {A : Type 0} → Form A → Type 0
IsCutOnce {A} form =
    (value other : A) (rest more : List ℕ) → form.holds value → form.holds other → form.write value ++ rest ≡ form.write other ++ more
    → (value ≡ other) × (rest ≡ more)

-- bytes are read as a value exactly where they are its form
abbrev pub WholesAreExact : {A : Type 0} → Form A → Type 0
WholesAreExact {A} form = (bytes : List ℕ) (value : A) → AreBytes bytes → (whole form bytes ≡ Some value) ↔ IsFormOf form value bytes

-- values of one form are equal
abbrev pub FormsTellValues : {A : Type 0} → Form A → Type 0
FormsTellValues {A} form = (bytes : List ℕ) (value other : A) → IsFormOf form value bytes → IsFormOf form other bytes → value ≡ other
