-- The objects that the bodies of a journal lead to, and why a journal isn't opened.
use Rattle.std.specs.Prelude.{ℕ, ◌≡◌, ◌⊎◌, List, [], ◌∷◌, Option, None, is_some, IfSome, IsTrue, Result, Ok, Err, ⊤}
use Rattle.pol_codec.specs.Objects.{object_change}
use Rattle.pol_codec.specs.declared.objects.ObjectChange.{ObjectChange}
use Rattle.pol_codec.specs.declared.objects.ObjectChange.TheVariants.{Put, Delete}
use Rattle.pol_forms.specs.Form.{IsFormOf}
use Rattle.pol_journal.specs.Format.{IsBadAt, IsNoJournal, IsReadTo, IsRecord, StandsFor, extent}
use Rattle.pol_journal.specs.declared.kind.Kind.TheVariants.{Objects}
use Rattle.pol_journal.specs.declared.refused.JournalRefused.{JournalRefused}
use Rattle.pol_journal.specs.declared.refused.JournalRefused.TheVariants.{NotAJournal, JournalThere, BadRecord, JournalFull, Unknown, DiskFault, OutOfMemory}
use Rattle.pol_objects.specs.Objects.{Object, object_at, with_object, without_object}
use Rattle.pol_object_store.specs.ObjectHistory.{ObjectLog}
use Rattle.pol_object_store.specs.ObjectImages.{KeepsObjectImages}
use Rattle.pol_object_store.specs.ObjectRecords.{object_opened}
use Rattle.pol_wire.specs.Faults.{Rises}

-- a change fits objects: it puts one where none is, or deletes one that is there
abbrev pub IsFitting : List Object → ObjectChange → Type 0
IsFitting objects (Put path bytes) = object_at objects path ≡ None
IsFitting objects (Delete path) = IsTrue (is_some (object_at objects path))

-- the objects after it
abbrev pub changed : List Object → ObjectChange → List Object
changed objects (Put path bytes) = with_object (record { path = path; bytes = bytes }) objects
changed objects (Delete path) = without_object path objects

-- a body is the form of a change that fits objects, and leads to others
pub record LeadsBy (body : List ℕ) (objects next : List Object) : Type 0 where
  pub change : ObjectChange
  pub form : IsFormOf object_change change body
  pub fits : IsFitting objects change
  pub after : next ≡ changed objects change

-- bodies lead from objects to others
unfoldable pub LeadTo : List Object → List (List ℕ) → List Object → Type 0
LeadTo objects [] now = now ≡ objects
LeadTo objects (body ∷ bodies) now = (next : List Object) × LeadsBy body objects next × LeadTo next bodies now

-- a body leads nowhere from these objects: it is no form, or its change doesn't fit
abbrev pub IsUnfit : List ℕ → List Object → Type 0
IsUnfit body objects = (next : List Object) → LeadsBy body objects next → ⊥

-- the records up to a gate lead to objects from which the body of the one that stands there leads nowhere
pub record IsUnfitAt (at : ℕ) (file : List ℕ) : Type 0 where
  pub bodies : List (List ℕ)
  pub objects : List Object
  pub leads : LeadTo [] bodies objects
  pub read : IsReadTo Objects bodies at file
  pub body : List ℕ
  pub stands : IsRecord body read.tail
  pub unfit : IsUnfit body objects

-- a file is refused at a gate
abbrev pub IsRefusedAt : ℕ → List ℕ → Type 0
IsRefusedAt at file = IsBadAt Objects at file ⊎ IsUnfitAt at file

-- why a journal isn't read: it is none, a record is bad, its disk failed in this call, or memory was wanting
abbrev pub RefusedBy : Type 0 → (ℕ → Type 0) → ℕ → ℕ → JournalRefused → Type 0
RefusedBy IsNone IsBad old new NotAJournal = IsNone
RefusedBy IsNone IsBad old new JournalThere = ⊥
RefusedBy IsNone IsBad old new (BadRecord at) = IsBad at
RefusedBy IsNone IsBad old new (JournalFull length wanted) = ⊥
RefusedBy IsNone IsBad old new Unknown = ⊥
RefusedBy IsNone IsBad old new DiskFault = Rises old new
RefusedBy IsNone IsBad old new OutOfMemory = ⊤

-- the first two by the bytes, where the disk tells them
abbrev pub OpenObjectsRefused : Option (List ℕ) → ℕ → ℕ → JournalRefused → Type 0
OpenObjectsRefused seen old new why = RefusedBy (IfSome seen (IsNoJournal Objects)) (λ at. IfSome seen (IsRefusedAt at)) old new why

-- a store that was made or opened, with nothing since: the journal is one of objects
pub record IsNewLog {D : Type 0} (log : ObjectLog D) : Type 0 where
  pub history : log.history ≡ []
  pub marks : log.marks ≡ []
  pub kind : log.journal.kind ≡ Objects

-- a file was opened: it stands for bodies that lead to the objects at the opening, at whose end the journal ended, and the
-- journal keeps them
pub record Reopens {D : Type 0} (seen : D → Option (List ℕ)) (may_leave : D → List ℕ → Type 0) (clock : D → ℕ) (left_since : D → ℕ → List ℕ → Type 0) (fault_count : D → ℕ) (file : List ℕ) (log : ObjectLog D) : Type 0 where
  pub bodies : List (List ℕ)
  pub stands : StandsFor Objects bodies file
  pub leads : LeadTo [] bodies log.base.objects
  pub ended : object_opened log ≡ extent bodies
  pub images : KeepsObjectImages seen may_leave clock left_since fault_count bodies log.base log.history log.journal

-- the disk of a store that was made or opened, or that is handed back
abbrev pub disk_left : {D E : Type 0} → Result (ObjectLog D) (D × E) → D
disk_left (Ok log) = log.journal.disk
disk_left (Err refused) = refused.0
