-- What the devices of a run tell of its reason.
use Rattle.std.specs.Prelude.{◌≡◌, ◌≢◌, ◌<◌, ⊤, List, ℕ, length, true, false, IfSome, IsSome}
use Rattle.std.specs.Io.KnownBytes.{Consumes}
use Rattle.pol_journal.specs.Format.{IsNoJournal}
use Rattle.pol_journal.specs.declared.kind.Kind.TheVariants as kind
use Rattle.pol_server.specs.Ends.{Ends}
use Rattle.pol_server.specs.Link.{taken_bound}
use Rattle.pol_object_store.specs.Reopened as objects_journal
use Rattle.pol_server.specs.Opening as catalogue_journal
use Rattle.pol_wire.specs.Faults.{Rises}
use Rattle.pol_cli.specs.Disks.{Both, DiskTold}
use Rattle.pol_cli.specs.declared.reason.Reason.{Reason}
use Rattle.pol_cli.specs.declared.reason.Reason.TheVariants.{Done, ReadFault, WriteFault, Usage, NotAJournal, BadRecord, JournalThere, DiskFault, NoMemory, BadDeclaration, Refused, InputCut, DrawFault, Spent}

-- a disk had bytes
abbrev pub HadBytes : DiskTold → Type 0
HadBytes disk = IfSome disk.size (λ size. size ≢ 0)

-- a disk's count of faults rose in the run
abbrev pub Failed : DiskTold → Type 0
Failed disk = Rises disk.old disk.new

-- 2^40 bytes were taken
abbrev pub TakesAll : Ends → Ends → Type 0
TakesAll before after = (taken : List ℕ) × Consumes before.left after.left taken × (length taken ≡ taken_bound)

-- What a run tells by its reason alone. A fault is told only where its count rose in the run, or is at its end. A spent
-- link is told only where 2^40 bytes were taken. Bytes that are no journal, or have a bad record, and a disk that has
-- bytes, are told by what the disk had at the start
abbrev pub HasCause : Ends → Ends → Both → Reason → Type 0
HasCause before after disks Done = ⊤
HasCause before after disks ReadFault = Rises before.source_faults after.source_faults
HasCause before after disks WriteFault = Rises before.sink_faults after.sink_faults
HasCause before after disks Usage = ⊤
HasCause before after disks (NotAJournal true) = IfSome disks.objects.seen (IsNoJournal kind.Objects)
HasCause before after disks (NotAJournal false) = IfSome disks.catalogue.seen (IsNoJournal kind.Catalogue)
HasCause before after disks (BadRecord true at) = IfSome disks.objects.seen (objects_journal.IsRefusedAt at)
HasCause before after disks (BadRecord false at) = IfSome disks.catalogue.seen (catalogue_journal.IsRefusedAt at)
HasCause before after disks (JournalThere true) = HadBytes disks.objects
HasCause before after disks (JournalThere false) = HadBytes disks.catalogue
HasCause before after disks (DiskFault true) = Failed disks.objects
HasCause before after disks (DiskFault false) = Failed disks.catalogue
HasCause before after disks NoMemory = ⊤
HasCause before after disks (BadDeclaration fault) = ⊤
HasCause before after disks (Refused index why) = ⊤
HasCause before after disks InputCut = ⊤
HasCause before after disks DrawFault = Rises before.draw_faults after.draw_faults
HasCause before after disks Spent = TakesAll before after

-- no count of faults rose, or stands at its last value, and the input has fewer than 2^40 bytes
pub record IsUnfailing (before after : Ends) (disks : Both) : Type 0 where
  pub source : ¬ (Rises before.source_faults after.source_faults)
  pub sink : ¬ (Rises before.sink_faults after.sink_faults)
  pub draw : ¬ (Rises before.draw_faults after.draw_faults)
  pub catalogue : ¬ (Failed disks.catalogue)
  pub objects : ¬ (Failed disks.objects)
  pub input : IfSome before.left (λ bytes. length bytes < taken_bound)
  pub known : IsSome before.left

-- the reasons that the words, the input and the bytes of the disks decide, and want of memory
abbrev pub IsDecided : Reason → Type 0
IsDecided Done = ⊤
IsDecided ReadFault = ⊥
IsDecided WriteFault = ⊥
IsDecided Usage = ⊤
IsDecided (NotAJournal objects) = ⊤
IsDecided (BadRecord objects at) = ⊤
IsDecided (JournalThere objects) = ⊤
IsDecided (DiskFault objects) = ⊥
IsDecided NoMemory = ⊤
IsDecided (BadDeclaration fault) = ⊤
IsDecided (Refused index why) = ⊤
IsDecided InputCut = ⊤
IsDecided DrawFault = ⊥
IsDecided Spent = ⊥
