-- What reading tells: what a text or a value of TOML stands for, or its first fault.
use Rattle.std.specs.Prelude.{◌≡◌, Bool, true, false, List, [], ◌∷◌, Result, Ok, Err, ⊤}
use Rattle.pol_readers.specs.declared.path.Step.{Step}
use Rattle.pol_declaration.specs.declared.fault.DeclarationRefused.{DeclarationRefused}
use Rattle.pol_declaration.specs.declared.fault.DeclarationRefused.TheVariants.{BadDeclaration, OutOfMemory}
use Rattle.pol_declaration.specs.declared.fault.Fault.{Fault}
use Rattle.pol_declaration.specs.declared.fault.Fault.TheVariants.{TooLong, NotUtf8, NotToml, At}
use Rattle.pol_declaration.specs.declared.fault.Why.{Why}

abbrev pub Reading : Type 0 → Type 0
Reading A = Result A Fault

-- one reading after another: the first fault is told
infixl 10 ◌>>=◌
abbrev pub ◌>>=◌ : {A B : Type 0} → Reading A → (A → Reading B) → Reading B
Ok value >>= next = next value
Err fault >>= next = Err fault

-- a rule that must hold, or else that fault is told
abbrev pub must : Fault → Bool → Reading ⊤
must fault true = Ok tt
must fault false = Err fault

-- the value itself is wrong
abbrev pub bad : {A : Type 0} → Why → Reading A
bad why = Err (At [] why)

-- a fault, seen from one step further out
abbrev pub fault_under : Step → Fault → Fault
fault_under step (At path why) = At (step ∷ path) why
fault_under step TooLong = TooLong
fault_under step NotUtf8 = NotUtf8
fault_under step NotToml = NotToml

-- what reading tells one step further out
abbrev pub under : {A : Type 0} → Step → Reading A → Reading A
under step (Ok value) = Ok value
under step (Err fault) = Err (fault_under step fault)

-- what the code answers for a reading: just that, or that memory is wanting
abbrev pub Gives : {A : Type 0} → Result A DeclarationRefused → Reading A → Type 0
Gives (Ok value) reading = reading ≡ Ok value
Gives (Err (BadDeclaration fault)) reading = reading ≡ Err fault
Gives (Err OutOfMemory) reading = ⊤

-- the same, where the code answers a value that stands for what is read
abbrev pub GivesBy : {A B : Type 0} → (A → B) → Result A DeclarationRefused → Reading B → Type 0
GivesBy meaning (Ok value) reading = reading ≡ Ok (meaning value)
GivesBy meaning (Err (BadDeclaration fault)) reading = reading ≡ Err fault
GivesBy meaning (Err OutOfMemory) reading = ⊤
