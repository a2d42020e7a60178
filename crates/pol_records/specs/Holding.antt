-- What the journal of records stands for, now and at each moment since its opening.
use Rattle.std.specs.Prelude.{ℕ, ◌≡◌, ◌+◌, ◌-◌, ◌^◌, ◌≤◌, ◌⊎◌, List, [], ◌∷◌, ◌++◌, length, Option}
use Rattle.std.specs.List.{AllByRecursion}
use mathlib.Core.List.{IsPrefix}
use Rattle.pol_journal.specs.Format.{StandsFor}
use Rattle.pol_journal.specs.Journal.{JournalState, IsReady, HasFailed, IsAtRest, IsUnsettled, SinceOpening}
use Rattle.pol_journal.specs.declared.kind.Kind.{Kind}

-- all records of a journal were read
abbrev pub IsPastReading : {D : Type 0} → JournalState D → Type 0
IsPastReading journal = IsReady journal ⊎ HasFailed journal

-- an append that failed: the bodies that had been written since the opening, and the body that was appended
pub record Lost : Type 0 where
  pub behind : List (List ℕ)
  pub body : List ℕ

-- the one whose append to these failed
abbrev pub lost_behind : List (List ℕ) → List ℕ → Lost
lost_behind written body = record { behind = written; body = body }

-- the opening bodies and some first ones of those that were written since
pub record IsFront (opening written bodies : List (List ℕ)) : Type 0 where
  pub front : List (List ℕ)
  pub first : IsPrefix front written
  pub all : bodies ≡ opening ++ front

-- the opening bodies, those that were written before an append that failed, and its body
pub record HasLost (opening : List (List ℕ)) (lost : List Lost) (bodies : List (List ℕ)) : Type 0 where
  pub earlier : List Lost
  pub one : Lost
  pub later : List Lost
  pub among : lost ≡ earlier ++ one ∷ later
  pub all : bodies ≡ opening ++ (one.behind ++ one.body ∷ [])

-- an image stands for such bodies
pub record IsLeft (kind : Kind) (opening written : List (List ℕ)) (lost : List Lost) (image : List ℕ) : Type 0 where
  pub bodies : List (List ℕ)
  pub stands : StandsFor kind bodies image
  pub which : IsFront opening written bodies ⊎ HasLost opening lost bodies

-- a count rose by so many at least, or stands at its last value
abbrev pub RisesBy : ℕ → ℕ → ℕ → Type 0
RisesBy many old new = (many + old ≤ new) ⊎ (2 ^ 64 - 1 ≤ new)

-- the last append failed and isn't repaired: it is the last of those that failed
pub record IsLosing {D : Type 0} (seen : D → Option (List ℕ)) (may_leave : D → List ℕ → Type 0) (opening written : List (List ℕ)) (lost : List Lost) (journal : JournalState D) : Type 0 where
  pub earlier : List Lost
  pub body : List ℕ
  pub last : lost ≡ earlier ++ lost_behind written body ∷ []
  pub unsettled : IsUnsettled seen may_leave (opening ++ written) body journal

-- the journal has the opening bodies and those that were written since, and these appends failed since: each behind
-- some first ones of the written bodies, and no more of them than the disk's count of faults rose since the opening.
-- What a crash since then may have left is a front of the bodies, or what stood before an append that failed with its
-- body
pub record Holds {D : Type 0} (seen : D → Option (List ℕ)) (may_leave : D → List ℕ → Type 0) (clock : D → ℕ) (left_since : D → ℕ → List ℕ → Type 0) (fault_count : D → ℕ) (opening written : List (List ℕ)) (lost : List Lost) (journal : JournalState D) : Type 0 where
  pub now : IsAtRest seen may_leave (opening ++ written) journal ⊎ IsLosing seen may_leave opening written lost journal
  pub since : SinceOpening clock left_since fault_count (IsLeft journal.kind opening written lost) journal
  pub behind : AllByRecursion (λ one. IsPrefix one.behind written) lost
  pub faults : RisesBy (length lost) journal.opening.faults (fault_count journal.disk)
