-- What a journal over a disk promises, at rest and through its calls.
use Rattle.std.specs.Prelude.{ℕ, ◌≡◌, ◌+◌, ◌-◌, ◌^◌, ◌<◌, ◌≤◌, List, [], ◌∷◌, ◌++◌, length, Option, Some, None, IsSome, IfSome, Result, Ok, Err, ⊤}
use Rattle.pol_disk.specs.Disk.{IsDurable}
use Rattle.pol_journal.specs.Format.{StandsFor, IsStaged, IsBeforeOrAfter, IsReadTo, extent}
use Rattle.pol_journal.specs.declared.kind.Kind.{Kind}
use Rattle.pol_journal.specs.declared.opening.Opening.{Opening}
use Rattle.pol_journal.specs.declared.stage.Reached.{Reached}
use Rattle.pol_journal.specs.declared.stage.Reached.TheVariants.{Body, Gate}
use Rattle.pol_journal.specs.declared.stage.Stage.{Stage}
use Rattle.pol_journal.specs.declared.stage.Stage.TheVariants.{Reading, Ready, Unsettled}

-- the disk, what it told at the opening, the kind, the gate of the record that was given last, the place of the next
-- gate, and how far the journal has come
pub record JournalState (D : Type 0) : Type 0 where
  pub disk : D
  pub opening : Opening
  pub kind : Kind
  pub last : ℕ
  pub gate : ℕ
  pub stage : Stage

-- records are still to be read
abbrev pub IsReading : {D : Type 0} → JournalState D → Type 0
IsReading journal = journal.stage ≡ Reading

-- all records were read, and no append has failed since the last repair
abbrev pub IsReady : {D : Type 0} → JournalState D → Type 0
IsReady journal = journal.stage ≡ Ready

-- an append failed, and no repair has succeeded since
abbrev pub HasFailed : {D : Type 0} → JournalState D → Type 0
HasFailed journal = (reached : Reached) × (journal.stage ≡ Unsettled reached)

-- the next gate stands within the disk once all records were read
abbrev pub IsWithin : Stage → ℕ → Option ℕ → Type 0
IsWithin Reading gate size = ⊤
IsWithin Ready gate size = (gate < 2 ^ 64 - 1) × IfSome size (λ size. gate < size)
IsWithin (Unsettled reached) gate size = (gate < 2 ^ 64 - 1) × IfSome size (λ size. gate < size)

-- each of these images stands for these bodies
abbrev pub EachStandsFor : Kind → List (List ℕ) → (List ℕ → Type 0) → Type 0
EachStandsFor kind bodies may_leave = (image : List ℕ) → may_leave image → StandsFor kind bodies image

-- a disk that tells its bytes stands for these bodies, whatever a crash leaves of it, and their closed gate is this
pub record Stands (kind : Kind) (bodies : List (List ℕ)) (gate : ℕ) (seen : Option (List ℕ)) (may_leave : List ℕ → Type 0) : Type 0 where
  pub told : IsSome seen
  pub place : gate + 1 ≡ extent bodies
  pub images : EachStandsFor kind bodies may_leave

-- the journal is at rest on these bodies
pub record IsAtRest {D : Type 0} (seen : D → Option (List ℕ)) (may_leave : D → List ℕ → Type 0) (bodies : List (List ℕ)) (journal : JournalState D) : Type 0 where
  pub ready : IsReady journal
  pub stands : Stands journal.kind bodies journal.gate (seen journal.disk) (may_leave journal.disk)

-- what a failed append of a body may have left: before its gate write began the bodies alone, and then that body
-- behind a gate that may be any byte
abbrev pub IsLeftBy : Reached → Kind → List (List ℕ) → List ℕ → List ℕ → Type 0
IsLeftBy Body kind bodies body image = StandsFor kind bodies image
IsLeftBy Gate kind bodies body image = IsStaged kind bodies body image

-- the same of a disk
pub record Hangs (reached : Reached) (kind : Kind) (bodies : List (List ℕ)) (body : List ℕ) (gate : ℕ) (seen : Option (List ℕ)) (may_leave : List ℕ → Type 0) : Type 0 where
  pub told : IsSome seen
  pub place : gate + 1 ≡ extent bodies
  pub left : (image : List ℕ) → may_leave image → IsLeftBy reached kind bodies body image
  pub images : (image : List ℕ) → may_leave image → IsBeforeOrAfter kind bodies body image

-- an append of a body to these failed, and the journal isn't repaired: each image stands for the bodies, or for them
-- and that one
pub record IsUnsettled {D : Type 0} (seen : D → Option (List ℕ)) (may_leave : D → List ℕ → Type 0) (bodies : List (List ℕ)) (body : List ℕ) (journal : JournalState D) : Type 0 where
  pub reached : Reached
  pub failed : journal.stage ≡ Unsettled reached
  pub hangs : Hangs reached journal.kind bodies body journal.gate (seen journal.disk) (may_leave journal.disk)

-- since the opening the disk's clock and its count of faults have not gone back, and what a crash at any moment since
-- then may have left has P
pub record SinceOpening {D : Type 0} (clock : D → ℕ) (left_since : D → ℕ → List ℕ → Type 0) (fault_count : D → ℕ) (P : List ℕ → Type 0) (journal : JournalState D) : Type 0 where
  pub later : journal.opening.moment ≤ clock journal.disk
  pub counted : journal.opening.faults ≤ fault_count journal.disk
  pub images : (image : List ℕ) → left_since journal.disk journal.opening.moment image → P image

-- the journal reads these bytes, which no crash since the opening takes away, and has given these bodies of them
pub record HasRead {D : Type 0} (seen : D → Option (List ℕ)) (may_leave : D → List ℕ → Type 0) (clock : D → ℕ) (left_since : D → ℕ → List ℕ → Type 0) (fault_count : D → ℕ) (file : List ℕ) (bodies : List (List ℕ)) (journal : JournalState D) : Type 0 where
  pub reading : IsReading journal
  pub told : seen journal.disk ≡ Some file
  pub durable : IsDurable (seen journal.disk) (may_leave journal.disk)
  pub since : SinceOpening clock left_since fault_count (λ image. image ≡ file) journal
  pub read : IsReadTo journal.kind bodies journal.gate file

-- the end of these bodies: the file stands for them, as each image since the opening does, and the journal is at rest
pub record MeetsEnd {D : Type 0} (seen : D → Option (List ℕ)) (may_leave : D → List ℕ → Type 0) (clock : D → ℕ) (left_since : D → ℕ → List ℕ → Type 0) (fault_count : D → ℕ) (file : List ℕ) (bodies : List (List ℕ)) (journal : JournalState D) : Type 0 where
  pub at_rest : IsAtRest seen may_leave bodies journal
  pub stands : StandsFor journal.kind bodies file
  pub since : SinceOpening clock left_since fault_count (StandsFor journal.kind bodies) journal

-- what comes after these bodies: the end, or one more
abbrev pub GivesNext : {D : Type 0} → (D → Option (List ℕ)) → (D → List ℕ → Type 0) → (D → ℕ) → (D → ℕ → List ℕ → Type 0) → (D → ℕ) → List ℕ → List (List ℕ) → Option (List ℕ) → JournalState D → Type 0
GivesNext seen may_leave clock left_since fault_count file bodies None journal = MeetsEnd seen may_leave clock left_since fault_count file bodies journal
GivesNext seen may_leave clock left_since fault_count file bodies (Some body) journal = HasRead seen may_leave clock left_since fault_count file (bodies ++ body ∷ []) journal

-- a journal after a record was given, or the end was met
abbrev pub after_next : {D : Type 0} → JournalState D → Option (List ℕ) → JournalState D
after_next journal None = record journal { stage = Ready }
after_next journal (Some body) = record journal { last = journal.gate; gate = journal.gate + 9 + length body }

-- a disk that tells that it has no bytes, whatever a crash leaves of it
pub record IsBlank (seen : Option (List ℕ)) (may_leave : List ℕ → Type 0) : Type 0 where
  pub told : seen ≡ Some []
  pub durable : IsDurable seen may_leave

-- the disk of a call that answers a journal, or hands the disk back
abbrev pub disk_of : {D E : Type 0} → Result (JournalState D) (D × E) → D
disk_of (Ok journal) = journal.disk
disk_of (Err refused) = refused.0
