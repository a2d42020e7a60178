-- Why a run ended, and what it reports.
use Rattle.std.specs.Prelude.{ℕ, Bool, List}
use Rattle.pol_init.specs.declared.journals.NotMade.{NotMade}
use Rattle.pol_init.specs.declared.journals.NotMade.TheVariants as unmade
use Rattle.pol_init.specs.declared.prepared.NotPrepared.{NotPrepared}
use Rattle.pol_init.specs.declared.prepared.NotPrepared.TheVariants as unprepared
use Rattle.pol_journal.specs.declared.refused.JournalRefused.{JournalRefused}
use Rattle.pol_journal.specs.declared.refused.JournalRefused.TheVariants as journal
use Rattle.pol_server.specs.declared.served.Ending.{Ending}
use Rattle.pol_server.specs.declared.served.Ending.TheVariants as ending
use Rattle.pol_cli.specs.declared.reason.Reason.{Reason}
use Rattle.pol_cli.specs.declared.reason.Reason.TheVariants.{Done, ReadFault, WriteFault, Usage, NotAJournal, BadRecord, JournalThere, DiskFault, NoMemory, BadDeclaration, Refused, InputCut, DrawFault, Spent}
use Rattle.pol_cli.specs.declared.report.Report.{Report}
use Rattle.pol_cli.specs.declared.report.ServedLink.{ServedLink}

-- the exit status of a reason
abbrev pub status_of : Reason → ℕ
status_of Done = 0
status_of ReadFault = 1
status_of WriteFault = 1
status_of Usage = 2
status_of (NotAJournal objects) = 3
status_of (BadRecord objects at) = 3
status_of (JournalThere objects) = 3
status_of (DiskFault objects) = 4
status_of NoMemory = 5
status_of (BadDeclaration fault) = 6
status_of (Refused index why) = 6
status_of InputCut = 7
status_of DrawFault = 8
status_of Spent = 9

-- a report of this reason, over these links
abbrev pub report_of : Reason → List ServedLink → Report
report_of reason served = record { status = status_of reason; reason = reason; served = served }

-- the reason of a run whose link ended so
abbrev pub reason_of : Ending → Reason
reason_of ending.Ended = Done
reason_of ending.Cut = InputCut
reason_of ending.Closed = Done
reason_of ending.ReadFault = ReadFault
reason_of ending.WriteFault = WriteFault
reason_of ending.Spent = Spent
reason_of ending.NoMemory = NoMemory

-- of one that had nothing to make journals of
abbrev pub reason_not_prepared : NotPrepared → Reason
reason_not_prepared unprepared.ReadFault = ReadFault
reason_not_prepared (unprepared.BadDeclaration fault) = BadDeclaration fault
reason_not_prepared unprepared.DrawFault = DrawFault
reason_not_prepared (unprepared.Refused index why) = Refused index why
reason_not_prepared unprepared.OutOfMemory = NoMemory

-- of one whose journals weren't made
abbrev pub reason_not_made : NotMade → Reason
reason_not_made (unmade.JournalThere objects) = JournalThere objects
reason_not_made (unmade.DiskFault objects) = DiskFault objects

-- of one whose journal of the objects, or else of the catalogue, wasn't opened. No opening is refused as an append is, nor
-- since a journal is there
abbrev pub reason_not_opened : Bool → JournalRefused → Reason
reason_not_opened objects journal.NotAJournal = NotAJournal objects
reason_not_opened objects (journal.BadRecord at) = BadRecord objects at
reason_not_opened objects journal.JournalThere = JournalThere objects
reason_not_opened objects (journal.JournalFull length wanted) = DiskFault objects
reason_not_opened objects journal.Unknown = DiskFault objects
reason_not_opened objects journal.DiskFault = DiskFault objects
reason_not_opened objects journal.OutOfMemory = NoMemory
