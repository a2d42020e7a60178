-- What reading tells: what a value stands for, or the path to its first bad field.
use Rattle.std.specs.Prelude.{◌≡◌, List, [], ◌∷◌, Option, Some, None, Result, Ok, Err, ⊤}
use Rattle.pol_readers.specs.declared.path.Step.{Step}
use Rattle.pol_readers.specs.declared.error.ReadError.{ReadError}
use Rattle.pol_readers.specs.declared.error.ReadError.TheVariants.{Field, OutOfMemory}

abbrev pub Reading : Type 0 → Type 0
Reading A = Result A (List Step)

-- one reading after another: the first bad field is told
infixl 10 ◌>>=◌
abbrev pub ◌>>=◌ : {A B : Type 0} → Reading A → (A → Reading B) → Reading B
Ok value >>= next = next value
Err path >>= next = Err path

-- the same, where both read one value
abbrev pub chain : {S A B : Type 0} → (S → Reading A) → (A → S → Reading B) → S → Reading B
chain first next s = first s >>= (λ found. next found s)

-- the value itself is bad
abbrev pub bad : {A : Type 0} → Reading A
bad = Err []

-- the value, where there is one
abbrev pub found : {A : Type 0} → Option A → Reading A
found None = Err []
found (Some value) = Ok value

-- what reading tells one step further out
abbrev pub under : {A : Type 0} → Step → Reading A → Reading A
under step (Ok value) = Ok value
under step (Err path) = Err (step ∷ path)

-- a reading as one field, into which no path goes
abbrev pub as_one : {A : Type 0} → Reading A → Reading A
as_one (Ok value) = Ok value
as_one (Err path) = Err []

-- what the code answers for a reading: just that, or that memory is wanting
abbrev pub Gives : {A : Type 0} → Result A ReadError → Reading A → Type 0
Gives (Ok value) reading = reading ≡ Ok value
Gives (Err (Field path)) reading = reading ≡ Err path
Gives (Err OutOfMemory) reading = ⊤

-- the same, where the code answers a value that stands for what is read
abbrev pub GivesBy : {A B : Type 0} → (A → B) → Result A ReadError → Reading B → Type 0
GivesBy meaning (Ok value) reading = reading ≡ Ok (meaning value)
GivesBy meaning (Err (Field path)) reading = reading ≡ Err path
GivesBy meaning (Err OutOfMemory) reading = ⊤
