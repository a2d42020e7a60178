-- What a list of updates keeps of a metadata.
use Rattle.std.specs.Prelude.{◌≡◌, ◌≤◌, ◌<◌, ◌^◌, ℕ, List, take, codes, All, Result, Ok, Err, Some}
use Rattle.std.specs.List.{AllPairs, slice_get}
use Rattle.pol_drafts.specs.Drafts.{begun}
use Rattle.pol_meta.specs.Valid.{IsLong, IsValid, snapshot_named}
use Rattle.pol_meta.specs.Weight.{metadata_weight}
use Rattle.pol_meta.specs.declared.metadata.TableMetadata.{TableMetadata}
use Rattle.pol_meta.specs.declared.why.Why.{Why}
use Rattle.pol_updatelaws.specs.Weights.{updates_weight}
use Rattle.pol_updates.specs.Forms.{HasForm}
use Rattle.pol_updates.specs.Updates.{Place, after_one, in_turn, metadata_after}
use Rattle.pol_updates.specs.declared.update.Update.{Update}

-- a valid metadata stays valid
abbrev pub StaysValid : Type 0
StaysValid = (meta : TableMetadata) (version moment : ℕ) (updates : List Update) (made : TableMetadata)
    → IsValid meta → All HasForm updates → IsLong moment → metadata_after meta version updates moment ≡ Ok made → IsValid made

-- the current snapshot is the one that `main` names
abbrev pub HasMain : TableMetadata → Type 0
HasMain meta = meta.current_snapshot_id ≡ snapshot_named (codes "main") meta.refs

abbrev pub CurrentIsMain : Type 0
CurrentIsMain = (meta : TableMetadata) (version moment : ℕ) (updates : List Update) (made : TableMetadata)
    → HasMain meta → metadata_after meta version updates moment ≡ Ok made → HasMain made

-- sequence numbers of snapshots rise in their order, up to the last one
pub record Rises (meta : TableMetadata) : Type 0 where
  pub rising : AllPairs (λ earlier later. earlier.sequence_number < later.sequence_number) meta.snapshots
  pub last : All (λ snapshot. snapshot.sequence_number ≤ meta.last_sequence_number) meta.snapshots

abbrev pub SequenceRises : Type 0
SequenceRises = (meta : TableMetadata) (version moment : ℕ) (updates : List Update) (made : TableMetadata)
    → Rises meta → metadata_after meta version updates moment ≡ Ok made → Rises made

-- an update of this place is refused so: those before it are applied to what there is at the start, and then it has this
-- reason
pub record IsRefusedThere {U D : Type 0} (step : U → D → Result D Why) (start : D) (updates : List U) (place : Place) : Type 0 where
  pub before : D
  pub update : U
  pub applied : in_turn step 0 (take place.index updates) start ≡ Ok before
  pub there : slice_get updates place.index ≡ Some update
  pub refused : step update before ≡ Err place.why

abbrev pub FirstRefusedIsTold : Type 0
FirstRefusedIsTold = (meta : TableMetadata) (version moment : ℕ) (updates : List Update) (place : Place)
    → metadata_after meta version updates moment ≡ Err place → IsRefusedThere (after_one moment) (begun meta) updates place

-- the metadata and the list weigh at most 2^32 each, so what is made weighs at most 2^40
abbrev pub WeightKeepsBound : Type 0
WeightKeepsBound = (meta : TableMetadata) (version moment : ℕ) (updates : List Update) (made : TableMetadata)
    → metadata_weight meta ≤ 2 ^ 32 → updates_weight updates ≤ 2 ^ 32 → version < 2 ^ 64
    → metadata_after meta version updates moment ≡ Ok made → metadata_weight made ≤ 2 ^ 40
