-- Why journals aren't made.
use Rattle.std.specs.Prelude.{◌≡◌, ◌≢◌, ℕ, Bool, true, false, Option, IfSome, Result, Ok, Err, ⊤}
use Rattle.pol_journal.specs.declared.refused.JournalRefused.{JournalRefused}
use Rattle.pol_journal.specs.declared.refused.JournalRefused.TheVariants as refused
use Rattle.pol_wire.specs.Faults.{Rises}
use Rattle.pol_init.specs.declared.journals.NotMade.{NotMade}
use Rattle.pol_init.specs.declared.journals.NotMade.TheVariants.{JournalThere, DiskFault}

-- whether it is the objects' journal that wasn't made
abbrev pub is_of_objects : NotMade → Bool
is_of_objects (JournalThere objects) = objects
is_of_objects (DiskFault objects) = objects

-- the objects' journal was made: both were, or the catalogue's was refused
abbrev pub ObjectsAreMade : {A : Type 0} → Result A NotMade → Type 0
ObjectsAreMade (Ok done) = ⊤
ObjectsAreMade (Err why) = is_of_objects why ≡ false

-- the disk of one of the journals: its length before, and its count of faults before and after
pub record DiskTold : Type 0 where
  pub size : Option ℕ
  pub old : ℕ
  pub new : ℕ

-- a disk has bytes
abbrev pub HasBytes : DiskTold → Type 0
HasBytes disk = IfSome disk.size (λ size. size ≢ 0)

-- why journals aren't made: that disk has bytes, or it failed in this call
abbrev pub IsNotMade : DiskTold → DiskTold → NotMade → Type 0
IsNotMade catalogue objects (JournalThere true) = HasBytes objects
IsNotMade catalogue objects (JournalThere false) = HasBytes catalogue
IsNotMade catalogue objects (DiskFault true) = Rises objects.old objects.new
IsNotMade catalogue objects (DiskFault false) = Rises catalogue.old catalogue.new

-- what refuses the making of one of them
abbrev pub not_made : Bool → JournalRefused → NotMade
not_made objects refused.JournalThere = JournalThere objects
not_made objects refused.NotAJournal = DiskFault objects
not_made objects (refused.BadRecord at) = DiskFault objects
not_made objects (refused.JournalFull length wanted) = DiskFault objects
not_made objects refused.Unknown = DiskFault objects
not_made objects refused.DiskFault = DiskFault objects
not_made objects refused.OutOfMemory = DiskFault objects
