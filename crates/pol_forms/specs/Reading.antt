-- Reading bytes from the front: a value and the bytes behind it, or none where no value stands in front.
use Rattle.std.specs.Prelude.{◌≡◌, ℕ, zero, suc, Bool, true, false, List, [], ◌∷◌, length, take, drop, nat_lt, if◌then◌else◌, Option, Some, None, Result, Ok, Err, ⊤}
use Rattle.pol_forms.specs.declared.refused.CodecRefused.{CodecRefused}
use Rattle.pol_forms.specs.declared.refused.CodecRefused.TheVariants.{NoForm, OutOfMemory}

abbrev pub Reading : Type 0 → Type 0
Reading A = Option (A × List ℕ)

-- what is read behind a value
abbrev pub and_then : {A B : Type 0} → Reading A → (A → List ℕ → Reading B) → Reading B
and_then None next = None
and_then (Some read) next = next read.0 read.1

-- one reader behind another
infixl 10 ◌>>=◌
abbrev pub ◌>>=◌ : {A B : Type 0} → (List ℕ → Reading A) → (A → List ℕ → Reading B) → List ℕ → Reading B
first >>= next = λ bytes. and_then (first bytes) next

-- the end of a chain of readers: the value that they make
abbrev pub done : {A : Type 0} → A → List ℕ → Reading A
done value bytes = Some (value, bytes)

-- the same, where a test holds
abbrev pub only_if : {A : Type 0} → Bool → A → List ℕ → Reading A
only_if true value bytes = Some (value, bytes)
only_if false value bytes = None

-- the same of a value that may be missing
abbrev pub found : {A : Type 0} → Option A → List ℕ → Reading A
found (Some value) bytes = Some (value, bytes)
found None bytes = None

abbrev pub one_byte : List ℕ → Reading ℕ
one_byte [] = None
one_byte (byte ∷ bytes) = Some (byte, bytes)

-- so many bytes
abbrev pub front_of : ℕ → List ℕ → Reading (List ℕ)
front_of count bytes = if nat_lt (length bytes) count then None else Some (take count bytes, drop count bytes)

-- values of one form, so many of them
abbrev pub times : {A : Type 0} → (List ℕ → Reading A) → ℕ → List ℕ → Reading (List A)
times read zero = done []
times read (suc count) = read >>= (λ value. times read count >>= (λ values. done (value ∷ values)))

-- what an error tells of a reading: that no value stands there, or nothing where memory is wanting
abbrev pub Fails : {A : Type 0} → CodecRefused → Reading A → Type 0
Fails NoForm reading = reading ≡ None
Fails OutOfMemory reading = ⊤

-- what the code answers for a reading, and the bytes that it leaves
abbrev pub Gives : {A : Type 0} → Result A CodecRefused → List ℕ → Reading A → Type 0
Gives (Ok value) rest reading = reading ≡ Some (value, rest)
Gives (Err why) rest reading = Fails why reading

-- the same, where the code answers a value that stands for what is read
abbrev pub GivesBy : {A B : Type 0} → (A → B) → Result A CodecRefused → List ℕ → Reading B → Type 0
GivesBy meaning (Ok value) rest reading = reading ≡ Some (meaning value, rest)
GivesBy meaning (Err why) rest reading = Fails why reading
