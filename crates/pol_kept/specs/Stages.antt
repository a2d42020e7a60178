-- What the stages of a step tell.
use Rattle.std.specs.Prelude.{ℕ, ◌≡◌, ◌+◌, ◌^◌, ◌≤◌, ◌⊎◌, List, [], ◌∷◌, ◌++◌, length, map, Option, Some, None}
use Rattle.pol_commands.specs.declared.command.Command.{Command}
use Rattle.pol_content.specs.declared.change.Change.{Change}
use Rattle.pol_journal.specs.Journal.{HasFailed, JournalState}
use Rattle.pol_records.specs.Holding.{Holds, Lost, lost_behind}
use Rattle.pol_records.specs.Unwritten.{IsUnwritten, lost_by}
use Rattle.pol_records.specs.declared.unwritten.Unwritten.{Unwritten}
use Rattle.pol_records.specs.declared.unwritten.Unwritten.TheVariants as unwritten
use Rattle.pol_kept.specs.History.{Log, bodies_of, changes_of, end_with, opened_of, size_of, state_of}
use Rattle.pol_kept.specs.Images.{KeepsImages}
use Rattle.pol_kept.specs.Stepped.{IsJournalFull, IsMarked, IsUnknown}
use Rattle.pol_kept.specs.declared.stepped.Stepped.{Stepped}
use Rattle.pol_kept.specs.declared.stepped.Stepped.TheVariants as stepped
use Rattle.pol_kept.specs.declared.undone.Undone.{Undone}
use Rattle.pol_kept.specs.declared.undone.Undone.TheVariants.{JournalFull, Unknown, DiskFault, OutOfMemory}

-- the bodies of records of which there is at most one
abbrev pub bodies_in : Option (List ℕ) → List (List ℕ)
bodies_in None = []
bodies_in (Some body) = body ∷ []

-- the bodies stand behind the others of a journal, which had room for them. Where there are none nothing was written
pub record IsWritten {D : Type 0} (seen : D → Option (List ℕ)) (may_leave : D → List ℕ → Type 0) (clock : D → ℕ) (left_since : D → ℕ → List ℕ → Type 0) (fault_count : D → ℕ) (bodies : List (List ℕ)) (old new : JournalState D) : Type 0 where
  pub holds : (opening written : List (List ℕ)) (lost : List Lost)
      → Holds seen may_leave clock left_since fault_count opening written lost old
      → Holds seen may_leave clock left_since fault_count opening (written ++ bodies) lost new
  pub end : new.gate ≡ old.gate + size_of bodies
  pub opened : new.opening ≡ old.opening
  pub fits : (bodies ≡ []) ⊎ (old.gate + 1 + size_of bodies ≤ 2 ^ 40)
  pub idle : bodies ≡ [] → new ≡ old

-- there is one body, which wasn't written
pub record IsLeftOut {D : Type 0} (seen : D → Option (List ℕ)) (may_leave : D → List ℕ → Type 0) (clock : D → ℕ) (left_since : D → ℕ → List ℕ → Type 0) (fault_count : D → ℕ) (bodies : List (List ℕ)) (old new : JournalState D) (why : Unwritten) : Type 0 where
  pub body : List ℕ
  pub one : bodies ≡ body ∷ []
  pub holds : (opening written : List (List ℕ)) (lost : List Lost)
      → Holds seen may_leave clock left_since fault_count opening written lost old
      → Holds seen may_leave clock left_since fault_count opening written (lost_by why written body lost) new
  pub end : new.gate ≡ old.gate
  pub opened : new.opening ≡ old.opening
  pub cause : IsUnwritten fault_count old body new why

-- the marks after a record wasn't written: one more, of the pass, where the disk failed
abbrev pub marks_by : Unwritten → ℕ → List ℕ → List ℕ
marks_by (unwritten.JournalFull end wanted) number marks = marks
marks_by unwritten.Unknown number marks = marks ++ number ∷ []
marks_by unwritten.DiskFault number marks = marks ++ number ∷ []

-- why a command isn't carried out whose record wasn't written
abbrev pub undone_by : Unwritten → Undone
undone_by (unwritten.JournalFull end wanted) = JournalFull end wanted
undone_by unwritten.Unknown = Unknown
undone_by unwritten.DiskFault = DiskFault

-- the appends that failed, where a command wasn't carried out: that of its changes is one more where its outcome is unknown
abbrev pub lost_undone : Undone → List (List ℕ) → List Change → List Lost → List Lost
lost_undone (JournalFull end wanted) written changes lost = lost
lost_undone Unknown written changes lost = lost ++ map (lost_behind written) (bodies_of changes)
lost_undone DiskFault written changes lost = lost
lost_undone OutOfMemory written changes lost = lost

-- what came of a command that wasn't carried out
abbrev pub stepped_by : {Out : Type 0} → Undone → Stepped Out
stepped_by (JournalFull end wanted) = stepped.JournalFull end wanted
stepped_by Unknown = stepped.Unknown
stepped_by DiskFault = stepped.DiskFault
stepped_by OutOfMemory = stepped.OutOfMemory

-- a command was carried out: it stands last in the history, and the journal has room for its changes
pub record IsEntered {D : Type 0} (old new : Log D) (number : ℕ) (command : Command) (place : ℕ) : Type 0 where
  pub place_is : place ≡ length old.history
  pub enters : new ≡ record old { history = old.history ++ (record { number = number; command = command }) ∷ []; journal = new.journal }
  pub fits : (changes_of (state_of old) command ≡ []) ⊎ (end_with (opened_of old) old.base old.history command ≤ 2 ^ 40)

-- a command wasn't carried out
abbrev pub IsUndone : {D : Type 0} → (D → ℕ) → Log D → Log D → ℕ → Command → Undone → Type 0
IsUndone fault_count old new number command (JournalFull end wanted) = IsJournalFull old new command end wanted
IsUndone fault_count old new number command Unknown = IsUnknown fault_count old new number command
IsUndone fault_count old new number command DiskFault = IsMarked fault_count old new number command × HasFailed old.journal
IsUndone fault_count old new number command OutOfMemory = new ≡ old

-- A log goes on: what a crash may have left is known still, where the journal ended at the opening and what its disk told
-- then stay, and the disk's count of faults doesn't fall.
pub record GoesOn {D : Type 0} (seen : D → Option (List ℕ)) (may_leave : D → List ℕ → Type 0) (clock : D → ℕ) (left_since : D → ℕ → List ℕ → Type 0) (fault_count : D → ℕ) (old new : Log D) : Type 0 where
  pub images : (opening : List (List ℕ))
      → KeepsImages seen may_leave clock left_since fault_count opening old.base old.history old.journal
      → KeepsImages seen may_leave clock left_since fault_count opening new.base new.history new.journal
  pub opened : opened_of new ≡ opened_of old
  pub told : new.journal.opening ≡ old.journal.opening
  pub kept : fault_count old.journal.disk ≤ fault_count new.journal.disk
