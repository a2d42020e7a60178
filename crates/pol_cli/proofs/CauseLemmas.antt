-- What the reason of a run tells of its devices, by what was done.
use Rattle.std.proofs.Common.{◌≡◌, ◌≢◌, ◌<◌, ℕ, List, length, Option, Some, None, true, false, sym, ap, ◌∙◌, arith, length-append}
use Rattle.std.specs.Prelude.{IfSome, IsSome}
use Rattle.std.specs.Io.KnownBytes.{Consumes}
use Rattle.pol_init.specs.Journals.{IsNotMade}
use Rattle.pol_init.specs.declared.journals.NotMade.{NotMade}
use Rattle.pol_init.specs.declared.journals.NotMade.TheVariants as unmade
use Rattle.pol_journal.specs.declared.refused.JournalRefused.{JournalRefused}
use Rattle.pol_journal.specs.declared.refused.JournalRefused.TheVariants as journal
use Rattle.pol_server.specs.Ends.{Ends}
use Rattle.pol_server.specs.Link.{EndsBy, taken_bound}
use Rattle.pol_server.specs.Turn.{Turn}
use Rattle.pol_server.specs.declared.served.Ending.{Ending}
use Rattle.pol_server.specs.declared.served.Ending.TheVariants as ending
use Rattle.pol_object_store.specs.Reopened.{OpenObjectsRefused}
use Rattle.pol_server.specs.Opening.{OpeningRefused}
use Rattle.pol_cli.specs.Causes.{HasCause, IsDecided, IsUnfailing}
use Rattle.pol_cli.specs.Disks.{Both}
use Rattle.pol_cli.specs.Reasons.{reason_not_made, reason_not_opened, reason_of, report_of, status_of}
use Rattle.pol_cli.specs.declared.reason.Reason.{Reason}
use Rattle.pol_cli.specs.declared.reason.Reason.TheVariants.{Done, ReadFault, WriteFault, Usage, NotAJournal, BadRecord, JournalThere, DiskFault, NoMemory, BadDeclaration, Refused, InputCut, DrawFault, Spent}
use Rattle.pol_cli.specs.declared.report.Report.{Report}
use Rattle.pol_cli.specs.declared.report.ServedLink.{ServedLink}

-- the status of a report is that of its reason
pub status-told : (reason : Reason) (served : List ServedLink) (report : Report) → report ≡ report_of reason served → report.status ≡ status_of report.reason
status-told reason served report is = ap (λ report. report.status) is ∙ ap (λ report. status_of report.reason) (sym is)

-- fewer bytes than the bound can't be spent
fewer : (left after : Option (List ℕ)) (taken : List ℕ) → IsSome left → IfSome left (λ bytes. length bytes < taken_bound) → Consumes left after taken → length taken ≢ taken_bound
fewer None after taken known short takes is = cc
fewer (Some bytes) None taken known short takes is = absurd takes
fewer (Some bytes) (Some rest) taken known short takes is = absurd (omega (arith, short, is, ap length takes, length-append taken rest))

module _ (before after : Ends) (disks : Both) where
  -- of a link that was served, by how it ended
  pub cause-ended : (how : Ending) (turns : List Turn) (taken rest text : List ℕ) → Consumes before.left after.left taken
      → EndsBy how before after turns (length taken) rest text → HasCause before after disks (reason_of how)
  cause-ended ending.Ended turns taken rest text takes ends = tt
  cause-ended ending.Cut turns taken rest text takes ends = tt
  cause-ended ending.Closed turns taken rest text takes ends = tt
  cause-ended ending.ReadFault turns taken rest text takes ends = ends.1
  cause-ended ending.WriteFault turns taken rest text takes ends = ends.0
  cause-ended ending.Spent turns taken rest text takes ends = (taken, takes, ends.1)
  cause-ended ending.NoMemory turns taken rest text takes ends = tt

  -- of a journal that wasn't opened
  pub cause-objects-refused : (why : JournalRefused) → OpenObjectsRefused disks.objects.seen disks.objects.old disks.objects.new why
      → HasCause before after disks (reason_not_opened true why)
  cause-objects-refused journal.NotAJournal is = is
  cause-objects-refused journal.JournalThere is = absurd is
  cause-objects-refused (journal.BadRecord at) is = is
  cause-objects-refused (journal.JournalFull length wanted) is = absurd is
  cause-objects-refused journal.Unknown is = absurd is
  cause-objects-refused journal.DiskFault is = is
  cause-objects-refused journal.OutOfMemory is = tt

  pub cause-catalogue-refused : (why : JournalRefused) → OpeningRefused disks.catalogue.seen disks.catalogue.old disks.catalogue.new why
      → HasCause before after disks (reason_not_opened false why)
  cause-catalogue-refused journal.NotAJournal is = is
  cause-catalogue-refused journal.JournalThere is = absurd is
  cause-catalogue-refused (journal.BadRecord at) is = is
  cause-catalogue-refused (journal.JournalFull length wanted) is = absurd is
  cause-catalogue-refused journal.Unknown is = absurd is
  cause-catalogue-refused journal.DiskFault is = is
  cause-catalogue-refused journal.OutOfMemory is = tt

  -- and of journals that weren't made
  pub cause-unmade : (why : NotMade) → IsNotMade (record { size = disks.catalogue.size; old = disks.catalogue.old; new = disks.catalogue.new })
      (record { size = disks.objects.size; old = disks.objects.old; new = disks.objects.new }) why → HasCause before after disks (reason_not_made why)
  cause-unmade (unmade.JournalThere true) is = is
  cause-unmade (unmade.JournalThere false) is = is
  cause-unmade (unmade.DiskFault true) is = is
  cause-unmade (unmade.DiskFault false) is = is

  -- where nothing failed, the words, the input and the bytes of the disks decide the reason, or memory is wanting
  pub decided : (reason : Reason) → HasCause before after disks reason → IsUnfailing before after disks → IsDecided reason
  decided Done cause unfailing = tt
  decided ReadFault cause unfailing = unfailing.source cause
  decided WriteFault cause unfailing = unfailing.sink cause
  decided Usage cause unfailing = tt
  decided (NotAJournal objects) cause unfailing = tt
  decided (BadRecord objects at) cause unfailing = tt
  decided (JournalThere objects) cause unfailing = tt
  decided (DiskFault true) cause unfailing = unfailing.objects cause
  decided (DiskFault false) cause unfailing = unfailing.catalogue cause
  decided NoMemory cause unfailing = tt
  decided (BadDeclaration fault) cause unfailing = tt
  decided (Refused index why) cause unfailing = tt
  decided InputCut cause unfailing = tt
  decided DrawFault cause unfailing = unfailing.draw cause
  decided Spent cause unfailing = absurd (fewer before.left after.left cause.0 unfailing.known unfailing.input cause.1 cause.2)
