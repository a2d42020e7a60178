-- What a run on files comes to.
use Rattle.std.proofs.Common.{◌≡◌, ◌≢◌, Bool, true, false, [], sym, ap, subst, ◌∙◌, inl, inr}
use Rattle.pol_server.specs.Stores.{KeepsCatalogue, KeepsObjects}
use Rattle.pol_journal.specs.declared.refused.JournalRefused.{JournalRefused}
use Rattle.pol_journal.specs.declared.refused.JournalRefused.TheVariants as journal
use Rattle.pol_server.specs.Ends.{Ends}
use Rattle.pol_records.specs.Holding.{RisesBy}
use Rattle.pol_cli.specs.Causes.{HasCause}
use Rattle.pol_cli.specs.Disks.{Stays, Tells, both_told}
use Rattle.pol_cli.specs.Reasons.{reason_not_opened, status_of}
use Rattle.pol_cli.specs.declared.reason.Reason.TheVariants.{Usage}
use Rattle.pol_cli.specs.declared.report.Report.{Report}
use Rattle.pol_cli.proofs.CauseLemmas.{cause-catalogue-refused, cause-objects-refused, status-told}
use Rattle.pol_server.specs.Held.{Held}
use Rattle.pol_server.specs.Seen.{AreOfPasses}
use Rattle.pol_server.specs.HeldObjects.{HeldObjects}
use Rattle.pol_server.specs.SeenObjects.{AreOfObjectPasses}
use Rattle.pol_cli.specs.Files.{KeepsJournal, KeepsObjectsJournal, OpeningFails, OpensCatalogue, OpensObjects, RunsFiles, ServesFiles, seen_in}
use Rattle.pol_cli.specs.Serving.{Serves}
use Rattle.pol_cli.proofs.ServingLemmas.{alone-serves, cause-serves, planned-serves, reason-told, status-serves}

-- no refusal of a journal is a faulty line
planned-unopened : (at_objects : Bool) (why : JournalRefused) → reason_not_opened at_objects why ≢ Usage
planned-unopened at_objects journal.NotAJournal is = cc
planned-unopened at_objects journal.JournalThere is = cc
planned-unopened at_objects (journal.BadRecord at) is = cc
planned-unopened at_objects (journal.JournalFull length wanted) is = cc
planned-unopened at_objects journal.Unknown is = cc
planned-unopened at_objects journal.DiskFault is = cc
planned-unopened at_objects journal.OutOfMemory is = cc

module _ {D O : Type 0} (d : Tells D) (o : Tells O) where
  -- a catalogue that was opened, and then kept by its passes
  keeps-journal : (old new : D) (first last : Held D) → OpensCatalogue d old first → KeepsCatalogue d.seen d.may_leave d.clock d.left_since d.fault_count first last
      → new ≡ last.journal.disk → RisesBy last.seen.failed last.journal.opening.faults (d.fault_count last.journal.disk) → KeepsJournal d old new first last
  keeps-journal old new first last opens keeps disk marked = record {
    opens = opens;
    images = λ file told. keeps.images (opens.opened file told).bodies (opens.opened file told).images;
    opening = keeps.opening;
    disk = disk;
    marked = subst (λ first. RisesBy last.seen.failed first (d.fault_count new)) (ap (λ opening. opening.faults) keeps.opening)
        (subst (λ count. RisesBy last.seen.failed last.journal.opening.faults count) (sym (ap d.fault_count disk)) marked);
  }

  keeps-objects : (old new : O) (first last : HeldObjects O) → OpensObjects o old first → KeepsObjects o.seen o.may_leave o.clock o.left_since o.fault_count first last
      → new ≡ last.journal.disk → RisesBy last.seen.failed last.journal.opening.faults (o.fault_count last.journal.disk) → KeepsObjectsJournal o old new first last
  keeps-objects old new first last opens keeps disk marked = record {
    opens = opens;
    images = λ file told. keeps.images (opens.opened file told).bodies (opens.opened file told).images;
    opening = keeps.opening;
    disk = disk;
    marked = subst (λ first. RisesBy last.seen.failed first (o.fault_count new)) (ap (λ opening. opening.faults) keeps.opening)
        (subst (λ count. RisesBy last.seen.failed last.journal.opening.faults count) (sym (ap o.fault_count disk)) marked);
  }

  -- a disk that was opened, and whose store was handed back as it was
  stays-opened : (old new : D) (first last : Held D) → OpensCatalogue d old first → last ≡ first → new ≡ last.journal.disk → Stays d old new
  stays-opened old new first last opens same disk = subst (Stays d old) (sym (disk ∙ ap (λ held. held.journal.disk) same)) opens.untouched

  objects-stay : (old new : O) (first last : HeldObjects O) → OpensObjects o old first → last ≡ first → new ≡ last.journal.disk → Stays o old new
  objects-stay old new first last opens same disk = subst (Stays o old) (sym (disk ∙ ap (λ held. held.journal.disk) same)) opens.untouched

  module _ (old new : D) (objects_old objects_new : O) (before after : Ends) (report : Report) where
    pub serves-files : (first last : Held D) (objects_first objects_last : HeldObjects O) → OpensCatalogue d old first → OpensObjects o objects_old objects_first
        → Serves (seen_in first objects_first) before after (seen_in last objects_last) report
        → KeepsCatalogue d.seen d.may_leave d.clock d.left_since d.fault_count first last → KeepsObjects o.seen o.may_leave o.clock o.left_since o.fault_count objects_first objects_last
        → new ≡ last.journal.disk → objects_new ≡ objects_last.journal.disk
        → AreOfPasses last.seen.made last.seen.front → AreOfObjectPasses objects_last.seen.made objects_last.seen.front
        → RisesBy last.seen.failed last.journal.opening.faults (d.fault_count last.journal.disk)
        → RisesBy objects_last.seen.failed objects_last.journal.opening.faults (o.fault_count objects_last.journal.disk)
        → (report.served ≡ [] → last ≡ first) → (report.served ≡ [] → objects_last ≡ objects_first)
        → ServesFiles d o old new objects_old objects_new before after report
    serves-files first last objects_first objects_last opens objects_open serves keeps objects_keep disk objects_disk passes objects_passes marked objects_marked same objects_same = record {
      first = first;
      last = last;
      objects_first = objects_first;
      objects_last = objects_last;
      catalogue = keeps-journal old new first last opens keeps disk marked;
      objects = keeps-objects objects_old objects_new objects_first objects_last objects_open objects_keep objects_disk objects_marked;
      serves = serves;
      alone = alone-serves (seen_in first objects_first) (seen_in last objects_last) before after report serves opens.new passes objects_open.new objects_passes;
      stays = λ none. stays-opened old new first last opens (same none) disk;
      objects_stay = λ none. objects-stay objects_old objects_new objects_first objects_last objects_open (objects_same none) objects_disk;
    }

    cause-fails : (at_objects : Bool) (why : JournalRefused) → OpeningFails d o old new objects_old objects_new at_objects why
        → HasCause before after (both_told d o old new objects_old objects_new) (reason_not_opened at_objects why)
    cause-fails true why fails = cause-objects-refused before after (both_told d o old new objects_old objects_new) why fails.cause
    cause-fails false why fails = cause-catalogue-refused before after (both_told d o old new objects_old objects_new) why fails.cause

    pub cause-files : RunsFiles d o old new objects_old objects_new before after report
        → HasCause before after (both_told d o old new objects_old objects_new) report.reason
    cause-files (inl unopened) =
        reason-told (HasCause before after (both_told d o old new objects_old objects_new)) (reason_not_opened unopened.at_objects unopened.why) [] report unopened.report_is
        (cause-fails unopened.at_objects unopened.why unopened.fails)
    cause-files (inr served) =
        cause-serves (seen_in served.first served.objects_first) (seen_in served.last served.objects_last) before after report (both_told d o old new objects_old objects_new) served.serves

    pub status-files : RunsFiles d o old new objects_old objects_new before after report → report.status ≡ status_of report.reason
    status-files (inl unopened) = status-told (reason_not_opened unopened.at_objects unopened.why) [] report unopened.report_is
    status-files (inr served) =
        status-serves (seen_in served.first served.objects_first) (seen_in served.last served.objects_last) before after report served.serves

    pub planned-files : RunsFiles d o old new objects_old objects_new before after report → report.reason ≢ Usage
    planned-files (inl unopened) =
        reason-told (λ reason. reason ≢ Usage) (reason_not_opened unopened.at_objects unopened.why) [] report unopened.report_is (planned-unopened unopened.at_objects unopened.why)
    planned-files (inr served) =
        planned-serves (seen_in served.first served.objects_first) (seen_in served.last served.objects_last) before after report served.serves
