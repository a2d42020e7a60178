-- The state that the records of a catalogue's journal lead to, and why a journal isn't opened.
use Rattle.std.specs.Prelude.{ℕ, ◌≡◌, ◌≢◌, ◌⊎◌, List, [], ◌∷◌, Option, IfSome, Result, Ok, Err, ⊤}
use Rattle.pol_changecodec.specs.Change.{changes as changes_form}
use Rattle.pol_content.specs.declared.change.Change.{Change}
use Rattle.pol_forms.specs.Form.{IsFormOf}
use Rattle.pol_journal.specs.Format.{IsBroken, IsClosed, IsNoJournal, IsReadTo, IsRecord}
use Rattle.pol_journal.specs.Journal.{JournalState, MeetsEnd}
use Rattle.pol_journal.specs.declared.kind.Kind.TheVariants.{Catalogue}
use Rattle.pol_journal.specs.declared.refused.JournalRefused.{JournalRefused}
use Rattle.pol_journal.specs.declared.refused.JournalRefused.TheVariants.{NotAJournal, JournalThere, BadRecord, JournalFull, Unknown, DiskFault, OutOfMemory}
use Rattle.pol_opening.specs.declared.opened.Opened.{Opened}
use Rattle.pol_soundness.specs.Base.{rows_after}
use Rattle.pol_state.specs.Rows.{Rows, empty_state}
use Rattle.pol_state.specs.Sound.{IsSound}
use Rattle.pol_wire.specs.Faults.{Rises}

-- a body is the form of changes that lead from one state to another, which is sound
pub record LeadsBy (body : List ℕ) (s t : Rows) : Type 0 where
  pub changes : List Change
  pub form : IsFormOf changes_form changes body
  pub after : t ≡ rows_after changes s
  pub sound : IsSound t

-- bodies lead from one state to another, each to a sound one
unfoldable pub LeadsTo : Rows → List (List ℕ) → Rows → Type 0
LeadsTo s [] t = t ≡ s
LeadsTo s (body ∷ bodies) t = (next : Rows) × LeadsBy body s next × LeadsTo next bodies t

-- a file is opened: it stands for bodies, of which there is one, that lead from the empty state to this one, and the
-- journal of a catalogue has come to their end
pub record Opens {D : Type 0} (seen : D → Option (List ℕ)) (may_leave : D → List ℕ → Type 0) (clock : D → ℕ) (left_since : D → ℕ → List ℕ → Type 0) (fault_count : D → ℕ) (file : List ℕ) (journal : JournalState D) (s : Rows) : Type 0 where
  pub bodies : List (List ℕ)
  pub some : bodies ≢ []
  pub leads : LeadsTo empty_state bodies s
  pub kind : journal.kind ≡ Catalogue
  pub end : MeetsEnd seen may_leave clock left_since fault_count file bodies journal

-- no record was read, and none stands here
pub record HasNone (bodies : List (List ℕ)) (tail : List ℕ) : Type 0 where
  pub none_before : bodies ≡ []
  pub closed : IsClosed tail

-- a record stands here whose body isn't the form of changes that lead on to a sound state
pub record IsUnfit (s : Rows) (tail : List ℕ) : Type 0 where
  pub body : List ℕ
  pub stands : IsRecord body tail
  pub unfit : (t : Rows) → LeadsBy body s t → ⊥

-- no record leads on from here, behind these bodies: it runs past the end of the file, or there is none at all, or it
-- is unfit
abbrev pub LeadsNowhere : List (List ℕ) → Rows → List ℕ → Type 0
LeadsNowhere bodies s tail = IsBroken tail ⊎ (HasNone bodies tail ⊎ IsUnfit s tail)

-- a file is refused at a gate, which is the first such: the records up to it lead to a sound state, and none leads on
-- from there
pub record IsRefusedAt (at : ℕ) (file : List ℕ) : Type 0 where
  pub bodies : List (List ℕ)
  pub rows : Rows
  pub leads : LeadsTo empty_state bodies rows
  pub read : IsReadTo Catalogue bodies at file
  pub nowhere : LeadsNowhere bodies rows read.tail

-- why a journal isn't opened: its bytes, or its disk failed in this call, or memory was wanting
abbrev pub OpeningRefused : Option (List ℕ) → ℕ → ℕ → JournalRefused → Type 0
OpeningRefused seen old new NotAJournal = IfSome seen (IsNoJournal Catalogue)
OpeningRefused seen old new JournalThere = ⊥
OpeningRefused seen old new (BadRecord at) = IfSome seen (IsRefusedAt at)
OpeningRefused seen old new (JournalFull length wanted) = ⊥
OpeningRefused seen old new Unknown = ⊥
OpeningRefused seen old new DiskFault = Rises old new
OpeningRefused seen old new OutOfMemory = ⊤

-- the disk of a journal that was opened, or that is handed back
abbrev pub disk_left : {D : Type 0} → Result (Opened D) (D × JournalRefused) → D
disk_left (Ok opened) = opened.journal.disk
disk_left (Err refused) = refused.0
