-- What a store is when it was made or opened.
use Rattle.std.specs.Prelude.{◌≡◌, ◌≢◌, ⊤, ℕ, List, [], Option, Result, Ok, Err}
use Rattle.pol_journal.specs.Format.{StandsFor}
use Rattle.pol_journal.specs.declared.kind.Kind.TheVariants.{Catalogue}
use Rattle.pol_journal.specs.Refused.{CreateRefused}
use Rattle.pol_journal.specs.declared.refused.JournalRefused.{JournalRefused}
use Rattle.pol_journal.specs.declared.refused.JournalRefused.TheVariants.{NotAJournal, JournalThere, BadRecord, JournalFull, Unknown, DiskFault, OutOfMemory}
use Rattle.pol_opening.specs.Opening.{LeadsTo}
use Rattle.pol_state.specs.Changes.{changes_between}
use Rattle.pol_state.specs.Rows.{Rows, empty_state, fresh_state}
use Rattle.pol_kept.specs.History.{Log, bodies_of}
use Rattle.pol_kept.specs.Images.{KeepsImages}

-- a log with this base and nothing since
pub record IsNew {D : Type 0} (base : Rows) (log : Log D) : Type 0 where
  pub base_is : log.base ≡ base
  pub history : log.history ≡ []
  pub marks : log.marks ≡ []

-- the opening bodies of a fresh catalogue: one, of the changes from the empty state to the fresh one
abbrev pub fresh_bodies : List ℕ → List (List ℕ)
fresh_bodies secret = bodies_of (changes_between empty_state (fresh_state secret))

-- a file was opened: it stands for bodies, of which there is one, that lead to the state at the opening, and the journal
-- keeps them
pub record Reopens {D : Type 0} (seen : D → Option (List ℕ)) (may_leave : D → List ℕ → Type 0) (clock : D → ℕ) (left_since : D → ℕ → List ℕ → Type 0) (fault_count : D → ℕ) (file : List ℕ) (log : Log D) : Type 0 where
  pub bodies : List (List ℕ)
  pub some : bodies ≢ []
  pub leads : LeadsTo empty_state bodies log.base
  pub stands : StandsFor Catalogue bodies file
  pub images : KeepsImages seen may_leave clock left_since fault_count bodies log.base log.history log.journal

-- the disk of a store that was made or opened, or that is handed back
abbrev pub disk_of : {D E : Type 0} → Result (Log D) (D × E) → D
disk_of (Ok log) = log.journal.disk
disk_of (Err refused) = refused.0

-- why no store was made: the disk has bytes, or it failed in this call, or memory was wanting
abbrev pub FreshRefused : Option ℕ → ℕ → ℕ → JournalRefused → Type 0
FreshRefused size old new NotAJournal = CreateRefused size old new NotAJournal
FreshRefused size old new JournalThere = CreateRefused size old new JournalThere
FreshRefused size old new (BadRecord at) = CreateRefused size old new (BadRecord at)
FreshRefused size old new (JournalFull length wanted) = CreateRefused size old new (JournalFull length wanted)
FreshRefused size old new Unknown = CreateRefused size old new Unknown
FreshRefused size old new DiskFault = CreateRefused size old new DiskFault
FreshRefused size old new OutOfMemory = ⊤
