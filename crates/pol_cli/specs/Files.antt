-- What a run of `exec` on files reports, and what it does to its link and to both disks.
use Rattle.std.specs.Prelude.{◌≡◌, ◌⊎◌, ◌≤◌, ℕ, Bool, true, false, List, [], Some}
use Rattle.pol_journal.specs.declared.refused.JournalRefused.{JournalRefused}
use Rattle.pol_server.specs.Both.{BothGoOnAlone, SeenBoth}
use Rattle.pol_server.specs.Ends.{Ends}
use Rattle.pol_object_store.specs.Reopened.{OpenObjectsRefused}
use Rattle.pol_objects.specs.Objects.{total_length}
use Rattle.pol_server.specs.Opening.{OpeningRefused}
use Rattle.pol_records.specs.Holding.{RisesBy}
use Rattle.pol_cli.specs.Disks.{Stays, Tells}
use Rattle.pol_cli.specs.Reasons.{reason_not_opened, report_of}
use Rattle.pol_cli.specs.declared.report.Report.{Report}
use Rattle.pol_server.specs.Held.{Held, HoldsImages}
use Rattle.pol_server.specs.Opened.{ReopensAs, seen_new}
use Rattle.pol_server.specs.HeldObjects.{HeldObjects, HoldsObjectImages}
use Rattle.pol_server.specs.OpenedObjects.{ReopensObjects}
use Rattle.pol_state.specs.Sound.{IsSound}
use Rattle.pol_cli.specs.Serving.{Serves}

-- The catalogue's journal was opened: there is no history yet, the state is sound and nothing is charged. A file that
-- the disk told stands for bodies that lead to that state, and what a crash since may have left is known
-- (`ReopensAs`). The disk wasn't written, and what its count of faults was at the opening is kept
pub record OpensCatalogue {D : Type 0} (d : Tells D) (old : D) (held : Held D) : Type 0 where
  pub new : held.seen ≡ seen_new held.seen.base held.seen.opened
  pub sound : IsSound held.seen.base
  pub charged : held.seen.base.charged ≡ 0
  pub opened : (file : List ℕ) → d.seen old ≡ Some file → ReopensAs d.seen d.may_leave d.clock d.left_since d.fault_count file held
  pub untouched : Stays d old held.journal.disk
  pub opening : d.fault_count old ≤ held.journal.opening.faults

-- and the objects'
pub record OpensObjects {O : Type 0} (o : Tells O) (old : O) (held : HeldObjects O) : Type 0 where
  pub new : held.seen ≡ seen_new held.seen.base held.seen.opened
  pub counted : held.seen.base.counted ≡ total_length held.seen.base.objects
  pub opened : (file : List ℕ) → o.seen old ≡ Some file → ReopensObjects o.seen o.may_leave o.clock o.left_since o.fault_count file held
  pub untouched : Stays o old held.journal.disk
  pub opening : o.fault_count old ≤ held.journal.opening.faults

-- the objects' journal wasn't opened: its disk wasn't written, and the catalogue's wasn't called
pub record ObjectsFail {D O : Type 0} (o : Tells O) (old new : D) (objects_old objects_new : O) (why : JournalRefused) : Type 0 where
  pub cause : OpenObjectsRefused (o.seen objects_old) (o.fault_count objects_old) (o.fault_count objects_new) why
  pub untouched : Stays o objects_old objects_new
  pub uncalled : new ≡ old

-- the objects' was, and the catalogue's wasn't: no disk was written
pub record CatalogueFails {D O : Type 0} (d : Tells D) (o : Tells O) (old new : D) (objects_old objects_new : O) (why : JournalRefused) : Type 0 where
  pub cause : OpeningRefused (d.seen old) (d.fault_count old) (d.fault_count new) why
  pub untouched : Stays d old new
  pub objects_untouched : Stays o objects_old objects_new

-- the journal of the objects, or else of the catalogue, wasn't opened
abbrev pub OpeningFails : {D O : Type 0} → Tells D → Tells O → D → D → O → O → Bool → JournalRefused → Type 0
OpeningFails d o old new objects_old objects_new true why = ObjectsFail o old new objects_old objects_new why
OpeningFails d o old new objects_old objects_new false why = CatalogueFails d o old new objects_old objects_new why

-- that was all, and it is reported
pub record IsUnopened {D O : Type 0} (d : Tells D) (o : Tells O) (old new : D) (objects_old objects_new : O) (before after : Ends) (report : Report) : Type 0 where
  pub at_objects : Bool
  pub why : JournalRefused
  pub fails : OpeningFails d o old new objects_old objects_new at_objects why
  pub link : after ≡ before
  pub report_is : report ≡ report_of (reason_not_opened at_objects why) []

-- The catalogue's journal was opened, as `first`, and closed, as `last`. A disk that told a file at the start holds
-- at the return the bodies for which the file stands and the records of the whole history, but for a change whose
-- write failed last. Each image at each moment since the opening stands for those bodies and some first ones of the
-- records, or for what stood before a write that failed, with its change (`HoldsImages`). And no more calls were
-- marked than the disk's count of faults rose since the opening
pub record KeepsJournal {D : Type 0} (d : Tells D) (old new : D) (first last : Held D) : Type 0 where
  pub opens : OpensCatalogue d old first
  pub images : (file : List ℕ) (told : d.seen old ≡ Some file)
      → HoldsImages d.seen d.may_leave d.clock d.left_since d.fault_count (opens.opened file told).bodies last
  pub opening : last.journal.opening ≡ first.journal.opening
  pub disk : new ≡ last.journal.disk
  pub marked : RisesBy last.seen.failed first.journal.opening.faults (d.fault_count new)

-- and the objects'
pub record KeepsObjectsJournal {O : Type 0} (o : Tells O) (old new : O) (first last : HeldObjects O) : Type 0 where
  pub opens : OpensObjects o old first
  pub images : (file : List ℕ) (told : o.seen old ≡ Some file)
      → HoldsObjectImages o.seen o.may_leave o.clock o.left_since o.fault_count (opens.opened file told).bodies last
  pub opening : last.journal.opening ≡ first.journal.opening
  pub disk : new ≡ last.journal.disk
  pub marked : RisesBy last.seen.failed first.journal.opening.faults (o.fault_count new)

-- what the passes of both stores have seen
abbrev pub seen_in : {D O : Type 0} → Held D → HeldObjects O → SeenBoth
seen_in catalogue objects = record { catalogue = catalogue.seen; objects = objects.seen }

-- Both journals were opened, the link was served by the founding passes over what they hold, and nobody else entered
-- anything. Where memory was wanting before the link was called, both disks read as before the run
pub record ServesFiles {D O : Type 0} (d : Tells D) (o : Tells O) (old new : D) (objects_old objects_new : O) (before after : Ends) (report : Report) : Type 0 where
  pub first : Held D
  pub last : Held D
  pub objects_first : HeldObjects O
  pub objects_last : HeldObjects O
  pub catalogue : KeepsJournal d old new first last
  pub objects : KeepsObjectsJournal o objects_old objects_new objects_first objects_last
  pub serves : Serves (seen_in first objects_first) before after (seen_in last objects_last) report
  pub alone : BothGoOnAlone (seen_in first objects_first) (seen_in last objects_last)
  pub stays : report.served ≡ [] → Stays d old new
  pub objects_stay : report.served ≡ [] → Stays o objects_old objects_new

-- what a run on files reports, and does to its link and to both disks
abbrev pub RunsFiles : {D O : Type 0} → Tells D → Tells O → D → D → O → O → Ends → Ends → Report → Type 0
RunsFiles d o old new objects_old objects_new before after report =
    IsUnopened d o old new objects_old objects_new before after report
    ⊎ ServesFiles d o old new objects_old objects_new before after report
