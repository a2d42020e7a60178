-- What becomes of a journal where the change of an action is written, and where it isn't.
use Rattle.std.specs.Prelude.{ℕ, ◌≡◌, ◌≤◌, ◌+◌, ◌^◌, ◌⊎◌, List, [], ◌∷◌, ◌++◌, Option, Result, Ok, Err, ⊤}
use Rattle.pol_codec.specs.declared.objects.ObjectChange.{ObjectChange}
use Rattle.pol_journal.specs.Journal.{JournalState}
use Rattle.pol_records.specs.Holding.{Holds, Lost}
use Rattle.pol_records.specs.Unwritten.{IsUnwritten, lost_by}
use Rattle.pol_records.specs.declared.unwritten.Unwritten.{Unwritten}
use Rattle.pol_records.specs.declared.unwritten.Unwritten.TheVariants as unwritten
use Rattle.pol_object_store.specs.ObjectRecords.{AreForms, object_size_of}
use Rattle.pol_object_store.specs.declared.acted.Acted.{Acted}
use Rattle.pol_object_store.specs.declared.acted.Acted.TheVariants as acted
use Rattle.pol_object_store.specs.declared.undone.Undone.{Undone}
use Rattle.pol_object_store.specs.declared.undone.Undone.TheVariants as undone

-- these bodies were written, of which there may be none: they stand behind the others
pub record IsRecorded {D : Type 0} (seen : D → Option (List ℕ)) (may_leave : D → List ℕ → Type 0) (clock : D → ℕ) (left_since : D → ℕ → List ℕ → Type 0) (fault_count : D → ℕ) (bodies : List (List ℕ)) (old new : JournalState D) : Type 0 where
  pub holds : (opening written : List (List ℕ)) (lost : List Lost) → Holds seen may_leave clock left_since fault_count opening written lost old
      → Holds seen may_leave clock left_since fault_count opening (written ++ bodies) lost new
  pub after : new ≡ record old { disk = new.disk; gate = old.gate + object_size_of bodies; stage = new.stage }
  pub fits : (bodies ≡ []) ⊎ (new.gate + 1 ≤ 2 ^ 40)
  pub idle : bodies ≡ [] → new ≡ old

-- a body, which is the one of these, wasn't written
pub record IsUnrecorded {D : Type 0} (seen : D → Option (List ℕ)) (may_leave : D → List ℕ → Type 0) (clock : D → ℕ) (left_since : D → ℕ → List ℕ → Type 0) (fault_count : D → ℕ) (bodies : List (List ℕ)) (old new : JournalState D) (why : Unwritten) : Type 0 where
  pub body : List ℕ
  pub one : bodies ≡ body ∷ []
  pub holds : (opening written : List (List ℕ)) (lost : List Lost) → Holds seen may_leave clock left_since fault_count opening written lost old
      → Holds seen may_leave clock left_since fault_count opening written (lost_by why written body lost) new
  pub left : new ≡ record old { disk = new.disk; stage = new.stage }
  pub cause : IsUnwritten fault_count old body new why

-- and where memory was wanting nothing was to be written
abbrev pub IsUndone : {D : Type 0} → (D → Option (List ℕ)) → (D → List ℕ → Type 0) → (D → ℕ) → (D → ℕ → List ℕ → Type 0) → (D → ℕ) → List (List ℕ) → JournalState D → JournalState D → Undone → Type 0
IsUndone seen may_leave clock left_since fault_count bodies old new (undone.Unwritten why) =
    IsUnrecorded seen may_leave clock left_since fault_count bodies old new why
IsUndone seen may_leave clock left_since fault_count bodies old new undone.OutOfMemory = new ≡ old

-- the changes have forms, unless memory was wanting
abbrev pub AreFormedBy : {A : Type 0} → List ObjectChange → Result A Undone → Type 0
AreFormedBy changes (Ok done) = AreForms changes
AreFormedBy changes (Err (undone.Unwritten why)) = AreForms changes
AreFormedBy changes (Err undone.OutOfMemory) = ⊤

-- the marks that are made: one of the pass where the disk failed
abbrev pub marks_by : Undone → ℕ → List ℕ
marks_by (undone.Unwritten (unwritten.JournalFull end wanted)) number = []
marks_by (undone.Unwritten unwritten.Unknown) number = number ∷ []
marks_by (undone.Unwritten unwritten.DiskFault) number = number ∷ []
marks_by undone.OutOfMemory number = []

-- what is told
abbrev pub acted_by : Undone → Acted
acted_by (undone.Unwritten (unwritten.JournalFull end wanted)) = acted.JournalFull end wanted
acted_by (undone.Unwritten unwritten.Unknown) = acted.Unknown
acted_by (undone.Unwritten unwritten.DiskFault) = acted.DiskFault
acted_by undone.OutOfMemory = acted.OutOfMemory
