-- What a pass has seen of a history whose entries each have the number of a pass: of the catalogue's, or of another store's.
use Rattle.std.specs.Prelude.{◌≡◌, ◌==◌, ◌<◌, ◌≤◌, ◌+◌, ℕ, List, [], ◌∷◌, ◌++◌, if◌then◌else◌}
use Rattle.std.specs.List.{AllByRecursion}

-- the state at the opening, where the journal ended then, the pass's number, how many passes were made, the history that this
-- one has seen, and how many calls with its number the disk failed, as far as it has seen
pub record SeenOf (Base Entry : Type 0) : Type 0 where
  pub base : Base
  pub opened : ℕ
  pub number : ℕ
  pub made : ℕ
  pub front : List Entry
  pub failed : ℕ

-- the places of the entries of a number in a history whose first entry has this place
abbrev pub places_from : {Entry : Type 0} → (Entry → ℕ) → ℕ → ℕ → List Entry → List ℕ
places_from number_of number place [] = []
places_from number_of number place (entry ∷ entries) =
    if number_of entry == number
    then place ∷ places_from number_of number (place + 1) entries
    else places_from number_of number (place + 1) entries

-- a history that goes on
abbrev pub IsFrontOf : {Entry : Type 0} → List Entry → List Entry → Type 0
IsFrontOf front history = (more : List _) × (history ≡ front ++ more)

-- a pass has seen more: what it had seen goes on, and its own entries behind that stand at these places
pub record HasSeenOf {Base Entry : Type 0} (number_of : Entry → ℕ) (old new : SeenOf Base Entry) (places : List ℕ) : Type 0 where
  pub same : new ≡ record old { front = new.front; failed = new.failed }
  pub front : IsFrontOf old.front new.front
  pub own : places_from number_of old.number 0 new.front ≡ places_from number_of old.number 0 old.front ++ places
  pub kept : old.failed ≤ new.failed

-- and it has no mark more
pub record StaysOf {Base Entry : Type 0} (number_of : Entry → ℕ) (old new : SeenOf Base Entry) : Type 0 where
  pub seen : HasSeenOf number_of old new []
  pub unmarked : new.failed ≡ old.failed

-- each entry is of a pass that was made
abbrev pub AreMade : {Entry : Type 0} → (Entry → ℕ) → ℕ → List Entry → Type 0
AreMade number_of made history = AllByRecursion (λ entry. number_of entry < made) history

-- and so is each mark
abbrev pub AreMarksMade : ℕ → List ℕ → Type 0
AreMarksMade made marks = AllByRecursion (λ number. number < made) marks

-- a history goes on by entries of this number alone: nobody else entered anything
abbrev pub GoesOnBy : {Entry : Type 0} → (Entry → ℕ) → ℕ → List Entry → List Entry → Type 0
GoesOnBy number_of number front history =
    (more : List _) × (history ≡ front ++ more) × AllByRecursion (λ entry. number_of entry ≡ number) more
