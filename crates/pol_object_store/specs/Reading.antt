-- A journal of objects while its records are read.
use Rattle.std.specs.Prelude.{ℕ, ◌≡◌, ◌≤◌, List, [], Option}
use Rattle.pol_journal.specs.Crash.{IsUntouched}
use Rattle.pol_journal.specs.Journal.{HasRead, JournalState, MeetsEnd}
use Rattle.pol_journal.specs.declared.kind.Kind.TheVariants.{Objects}
use Rattle.pol_object_store.specs.Reopened.{LeadTo}
use Rattle.pol_objects.specs.Objects.{Object}

-- these bodies were read, and lead to these objects
pub record IsReadSoFar {D : Type 0} (seen : D → Option (List ℕ)) (may_leave : D → List ℕ → Type 0) (clock : D → ℕ) (left_since : D → ℕ → List ℕ → Type 0) (fault_count : D → ℕ) (file : List ℕ) (bodies : List (List ℕ)) (journal : JournalState D) (objects : List Object) : Type 0 where
  pub kind : journal.kind ≡ Objects
  pub read : HasRead seen may_leave clock left_since fault_count file bodies journal
  pub leads : LeadTo [] bodies objects

-- all were read
pub record IsReadWhole {D : Type 0} (seen : D → Option (List ℕ)) (may_leave : D → List ℕ → Type 0) (clock : D → ℕ) (left_since : D → ℕ → List ℕ → Type 0) (fault_count : D → ℕ) (file : List ℕ) (journal : JournalState D) (objects : List Object) : Type 0 where
  pub bodies : List (List ℕ)
  pub kind : journal.kind ≡ Objects
  pub met : MeetsEnd seen may_leave clock left_since fault_count file bodies journal
  pub leads : LeadTo [] bodies objects

-- what reading leaves of a journal
pub record IsReadOn {D : Type 0} (seen : D → Option (List ℕ)) (may_leave : D → List ℕ → Type 0) (clock : D → ℕ) (left_since : D → ℕ → List ℕ → Type 0) (fault_count : D → ℕ) (size : D → Option ℕ) (old new : JournalState D) : Type 0 where
  pub same : new ≡ record old { disk = new.disk; last = new.last; gate = new.gate; stage = new.stage }
  pub untouched : IsUntouched clock left_since may_leave seen size old.disk new.disk
  pub kept : fault_count old.disk ≤ fault_count new.disk
