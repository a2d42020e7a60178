-- What a run of `init` reports, and what it does to its link and to both disks.
use Rattle.std.specs.Prelude.{◌≡◌, ◌⊎◌, ◌+◌, ℕ, List, [], ◌∷◌, length, Option, true, false, IfSome}
use Rattle.std.specs.Io.KnownBytes.{Appends}
use Rattle.pol_disk.specs.Disk.{LeavesOnly}
use Rattle.pol_init.specs.Journals.{IsNotMade, is_of_objects}
use Rattle.pol_init.specs.Journals as making
use Rattle.pol_init.specs.Prepared.{Inputs, IsNotPrepared, Moves, Prepares}
use Rattle.pol_init.specs.declared.journals.NotMade.{NotMade}
use Rattle.pol_init.specs.declared.prepared.NotPrepared.{NotPrepared}
use Rattle.pol_init.specs.declared.prepared.Prepared.{Prepared}
use Rattle.pol_journal.specs.Format.{IsNoneOrStandsFor}
use Rattle.pol_journal.specs.Journal.{IsBlank, Stands}
use Rattle.pol_journal.specs.declared.kind.Kind.TheVariants.{Catalogue, Objects}
use Rattle.pol_server.specs.Ends.{Ends}
use Rattle.pol_cli.specs.Disks.{StaysWithBytes, Tells}
use Rattle.pol_cli.specs.Reasons.{reason_not_made, reason_not_prepared}
use Rattle.pol_cli.specs.Told.{GivesText}
use Rattle.pol_cli.specs.declared.reason.Reason.{Reason}
use Rattle.pol_cli.specs.declared.reason.Reason.TheVariants.{Done, WriteFault}
use Rattle.pol_wire.specs.Faults.{Rises}

-- what the ends of a link tell of what `init` reads
abbrev pub inputs : Ends → Inputs
inputs ends = record {
  left = ends.left;
  moments = ends.moments;
  words = ends.words;
  source_faults = ends.source_faults;
  draw_faults = ends.draw_faults;
}

-- what a sink tells: the bytes that it was given, and its count of faults
pub record SinkTold : Type 0 where
  pub given : Option (List ℕ)
  pub faults : ℕ

abbrev pub sink : Ends → SinkTold
sink ends = record { given = ends.given; faults = ends.sink_faults }

-- nothing was prepared: no disk was called, and nothing written
pub record PreparesNothing {D O : Type 0} (old new : D) (objects_old objects_new : O) (before after : Ends) (reason : Reason) : Type 0 where
  pub why : NotPrepared
  pub refused : IsNotPrepared (inputs before) (inputs after) why
  pub moved : Moves (inputs before) (inputs after)
  pub unwritten : sink after ≡ sink before
  pub catalogue : new ≡ old
  pub objects : objects_new ≡ objects_old
  pub reason_is : reason ≡ reason_not_prepared why

-- What the making of the journals leaves. At each moment each image of a disk that was blank is no journal, or stands for
-- this body alone, or for none; a disk with bytes isn't touched
pub record LeavesJournals {D O : Type 0} (d : Tells D) (o : Tells O) (old new : D) (objects_old objects_new : O) (body : List ℕ) : Type 0 where
  pub moments : IsBlank (d.seen old) (d.may_leave old) → LeavesOnly d.clock d.left_since old new (IsNoneOrStandsFor Catalogue (body ∷ []))
  pub objects_moments : IsBlank (o.seen objects_old) (o.may_leave objects_old) → LeavesOnly o.clock o.left_since objects_old objects_new (IsNoneOrStandsFor Objects [])
  pub untouched : StaysWithBytes d old new
  pub objects_untouched : StaysWithBytes o objects_old objects_new

-- a disk had no bytes
abbrev pub WasEmpty : {D : Type 0} → Tells D → D → Type 0
WasEmpty d old = IfSome (d.size old) (λ size. size ≡ 0)

-- the objects' journal was made on an empty disk: each image stands for no body
pub record ObjectsAreMade {O : Type 0} (o : Tells O) (old new : O) : Type 0 where
  pub empty : WasEmpty o old
  pub stands : IsBlank (o.seen old) (o.may_leave old) → Stands Objects [] 64 (o.seen new) (o.may_leave new)

-- and the catalogue's: for this body, whose record with its gates has so many bytes
pub record CatalogueIsMade {D : Type 0} (d : Tells D) (old new : D) (body : List ℕ) (size : ℕ) : Type 0 where
  pub empty : WasEmpty d old
  pub stands : IsBlank (d.seen old) (d.may_leave old) → Stands Catalogue (body ∷ []) (63 + size) (d.seen new) (d.may_leave new)

-- what a disk tells of the making of its journal
abbrev pub told_making : {D : Type 0} → Tells D → D → D → making.DiskTold
told_making d old new = record { size = d.size old; old = d.fault_count old; new = d.fault_count new }

-- a journal wasn't made, and nothing was written. Where it is the objects', the catalogue's disk wasn't called
pub record IsRefused {D O : Type 0} (d : Tells D) (o : Tells O) (old new : D) (objects_old objects_new : O) (before after : SinkTold) (reason : Reason) : Type 0 where
  pub why : NotMade
  pub cause : IsNotMade (told_making d old new) (told_making o objects_old objects_new) why
  pub uncalled : is_of_objects why ≡ true → new ≡ old
  pub made : is_of_objects why ≡ false → ObjectsAreMade o objects_old objects_new
  pub unwritten : after ≡ before
  pub reason_is : reason ≡ reason_not_made why

-- the output was written, or its front, and then the sink failed
abbrev pub Writes : SinkTold → SinkTold → List ℕ → Reason → Type 0
Writes before after output reason =
    ((reason ≡ Done) × Appends before.given after.given output × (after.faults ≡ before.faults))
    ⊎ ((reason ≡ WriteFault) × Rises before.faults after.faults × GivesText before.given after.given before.faults after.faults output)

-- both journals were made, and then the output was written
pub record IsMade {D O : Type 0} (d : Tells D) (o : Tells O) (old new : D) (objects_old objects_new : O) (before after : SinkTold) (body : List ℕ) (prepared : Prepared) (reason : Reason) : Type 0 where
  pub catalogue : CatalogueIsMade d old new body (length prepared.first)
  pub objects : ObjectsAreMade o objects_old objects_new
  pub writes : Writes before after prepared.output reason

-- journals were made of what was prepared with this body, or weren't
pub record Makes {D O : Type 0} (d : Tells D) (o : Tells O) (old new : D) (objects_old objects_new : O) (before after : SinkTold) (body : List ℕ) (prepared : Prepared) (reason : Reason) : Type 0 where
  pub leaves : LeavesJournals d o old new objects_old objects_new body
  pub comes : IsRefused d o old new objects_old objects_new before after reason ⊎ IsMade d o old new objects_old objects_new before after body prepared reason

-- All that `init` makes was prepared in memory, and then the journals were made of it, or weren't. The catalogue's one body
-- has the changes that lead from the empty state to the one to which the declaration's commands lead, which all passed
-- (`IsReady`)
pub record MakesPrepared {D O : Type 0} (d : Tells D) (o : Tells O) (old new : D) (objects_old objects_new : O) (before after : Ends) (reason : Reason) : Type 0 where
  pub prepared : Prepared
  pub prepares : Prepares (inputs before) (inputs after) prepared
  pub makes : Makes d o old new objects_old objects_new (sink before) (sink after) prepares.ready.body prepared reason

-- what `init` does, and why it ends
abbrev pub Initialises : {D O : Type 0} → Tells D → Tells O → D → D → O → O → Ends → Ends → Reason → Type 0
Initialises d o old new objects_old objects_new before after reason =
    PreparesNothing old new objects_old objects_new before after reason
    ⊎ MakesPrepared d o old new objects_old objects_new before after reason
