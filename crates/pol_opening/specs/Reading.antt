-- While the records of a catalogue's journal are read: what is known after some of them, and why reading stops.
use Rattle.std.specs.Prelude.{ℕ, ◌≡◌, ◌≤◌, Bool, true, false, List, [], ◌∷◌, ◌++◌, Option, ⊤}
use Rattle.pol_journal.specs.Crash.{IsUntouched}
use Rattle.pol_journal.specs.Journal.{HasRead, JournalState, MeetsEnd}
use Rattle.pol_journal.specs.declared.kind.Kind.TheVariants.{Catalogue}
use Rattle.pol_journal.specs.declared.refused.JournalRefused.{JournalRefused}
use Rattle.pol_journal.specs.declared.refused.JournalRefused.TheVariants.{NotAJournal, JournalThere, BadRecord, JournalFull, Unknown, DiskFault, OutOfMemory}
use Rattle.pol_opening.specs.Opening.{IsRefusedAt, LeadsTo}
use Rattle.pol_opening.specs.declared.making.Known.{Known}
use Rattle.pol_opening.specs.declared.making.Known.TheVariants.{Valid, Sound}
use Rattle.pol_sound_content.specs.Valid.{HasValidParts}
use Rattle.pol_state.specs.Rows.{Rows, empty_state}
use Rattle.pol_state.specs.Sound.{IsSound}
use Rattle.pol_wire.specs.Faults.{Rises}

-- what is known of the state before a record
abbrev pub IsKnown : Known → Rows → Type 0
IsKnown Valid s = HasValidParts s.content
IsKnown Sound s = IsSound s

-- Reading goes on from one journal to another: its kind and what its disk told at the opening stay, its disk reads as
-- before, and the count of faults doesn't fall.
pub record ReadsOn {D : Type 0} (clock : D → ℕ) (left_since : D → ℕ → List ℕ → Type 0) (may_leave : D → List ℕ → Type 0) (seen : D → Option (List ℕ)) (size : D → Option ℕ) (fault_count : D → ℕ) (old new : JournalState D) : Type 0 where
  pub kind : new.kind ≡ old.kind
  pub opening : new.opening ≡ old.opening
  pub untouched : IsUntouched clock left_since may_leave seen size old.disk new.disk
  pub kept : fault_count old.disk ≤ fault_count new.disk

-- a journal of which these bodies were read, and the state that they lead to
pub record IsReadSoFar {D : Type 0} (seen : D → Option (List ℕ)) (may_leave : D → List ℕ → Type 0) (clock : D → ℕ) (left_since : D → ℕ → List ℕ → Type 0) (fault_count : D → ℕ) (file : List ℕ) (bodies : List (List ℕ)) (journal : JournalState D) (s : Rows) : Type 0 where
  pub kind : journal.kind ≡ Catalogue
  pub read : HasRead seen may_leave clock left_since fault_count file bodies journal
  pub leads : LeadsTo empty_state bodies s

-- a journal of which one record at least was read
pub record IsReadSome {D : Type 0} (seen : D → Option (List ℕ)) (may_leave : D → List ℕ → Type 0) (clock : D → ℕ) (left_since : D → ℕ → List ℕ → Type 0) (fault_count : D → ℕ) (file : List ℕ) (journal : JournalState D) (s : Rows) : Type 0 where
  pub before : List (List ℕ)
  pub last : List ℕ
  pub so_far : IsReadSoFar seen may_leave clock left_since fault_count file (before ++ last ∷ []) journal s

-- these bodies are all
pub record IsReadWhole {D : Type 0} (seen : D → Option (List ℕ)) (may_leave : D → List ℕ → Type 0) (clock : D → ℕ) (left_since : D → ℕ → List ℕ → Type 0) (fault_count : D → ℕ) (file : List ℕ) (bodies : List (List ℕ)) (journal : JournalState D) (s : Rows) : Type 0 where
  pub kind : journal.kind ≡ Catalogue
  pub end : MeetsEnd seen may_leave clock left_since fault_count file bodies journal
  pub leads : LeadsTo empty_state bodies s

-- one more was read, or there was none
abbrev pub GoesOn : {D : Type 0} → (D → Option (List ℕ)) → (D → List ℕ → Type 0) → (D → ℕ) → (D → ℕ → List ℕ → Type 0) → (D → ℕ) → List ℕ → List (List ℕ) → JournalState D → Rows → Bool → Type 0
GoesOn seen may_leave clock left_since fault_count file bodies journal s true =
    (body : List ℕ) × IsReadSoFar seen may_leave clock left_since fault_count file (bodies ++ body ∷ []) journal s
GoesOn seen may_leave clock left_since fault_count file bodies journal s false =
    IsReadWhole seen may_leave clock left_since fault_count file bodies journal s

-- why reading stops, apart from what the bytes tell of it
abbrev pub ReadingRefused : ℕ → ℕ → JournalRefused → Type 0
ReadingRefused old new NotAJournal = ⊥
ReadingRefused old new JournalThere = ⊥
ReadingRefused old new (BadRecord at) = ⊤
ReadingRefused old new (JournalFull length wanted) = ⊥
ReadingRefused old new Unknown = ⊥
ReadingRefused old new DiskFault = Rises old new
ReadingRefused old new OutOfMemory = ⊤

-- and what these tell
abbrev pub IsToldBy : List ℕ → JournalRefused → Type 0
IsToldBy file NotAJournal = ⊤
IsToldBy file JournalThere = ⊤
IsToldBy file (BadRecord at) = IsRefusedAt at file
IsToldBy file (JournalFull length wanted) = ⊤
IsToldBy file Unknown = ⊤
IsToldBy file DiskFault = ⊤
IsToldBy file OutOfMemory = ⊤

-- why the changes of a record aren't made: the record at this gate is bad for this reason, or memory was wanting
abbrev pub MakingRefused : ℕ → Type 0 → JournalRefused → Type 0
MakingRefused at reason NotAJournal = ⊥
MakingRefused at reason JournalThere = ⊥
MakingRefused at reason (BadRecord place) = (place ≡ at) × reason
MakingRefused at reason (JournalFull length wanted) = ⊥
MakingRefused at reason Unknown = ⊥
MakingRefused at reason DiskFault = ⊥
MakingRefused at reason OutOfMemory = ⊤
