-- Forms of values as bytes. One value has what is written, what is read, and the two laws that tie them: what is
-- written is read back, and bytes that are read begin with what is written of the value.
use Rattle.std.specs.Prelude.{◌≡◌, ◌<◌, ℕ, List, [], ◌∷◌, ◌++◌, get_or, Option, Some, None}
use Rattle.pol_forms.specs.Reading.{Reading}

abbrev pub AreBytes : List ℕ → Type 0
AreBytes bytes = (i : ℕ) → get_or bytes i 0 < 256

-- something holds, and bytes begin with these and go on with the rest
pub record Begins (fact : Type 0) (front bytes rest : List ℕ) : Type 0 where
  pub held : fact
  pub cut : bytes ≡ front ++ rest

-- a form of the values of a type: which of them keep the type's rules, and so have a form
pub record Form (A : Type 0) : Type 1 where
  pub holds : A → Type 0
  pub write : A → List ℕ
  pub read : List ℕ → Reading A
  pub reads_back : (value : A) (rest : List ℕ) → holds value → read (write value ++ rest) ≡ Some (value, rest)
  pub exact : (bytes : List ℕ) (value : A) (rest : List ℕ) → AreBytes bytes → read bytes ≡ Some (value, rest) → Begins (holds value) (write value) bytes rest

-- bytes are the form of a value
abbrev pub IsFormOf : {A : Type 0} → Form A → A → List ℕ → Type 0
IsFormOf form value bytes = form.holds value × (form.write value ≡ bytes)

-- the value where no bytes are left over
abbrev pub with_none_left : {A : Type 0} → A → List ℕ → Option A
with_none_left value [] = Some value
with_none_left value (byte ∷ bytes) = None

abbrev pub ended : {A : Type 0} → Reading A → Option A
ended None = None
ended (Some read) = with_none_left read.0 read.1

-- what a whole text of bytes is read as
abbrev pub whole : {A : Type 0} → Form A → List ℕ → Option A
whole form bytes = ended (form.read bytes)
