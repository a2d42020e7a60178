-- What a list of updates keeps of a view's metadata, and where it is refused.
use Rattle.std.specs.Prelude.{◌≡◌, ◌≤◌, ◌^◌, ℕ, List, length, All, Ok, Err}
use Rattle.pol_meta.specs.Valid.{IsLong}
use Rattle.pol_updates.specs.Updates.{Place}
use Rattle.pol_updatelaws.specs.Laws.{IsRefusedThere}
use Rattle.pol_views.specs.Forms.{HasViewForm}
use Rattle.pol_views.specs.Updates.{after_one, begun, view_after}
use Rattle.pol_views.specs.Valid.{IsValidView}
use Rattle.pol_views.specs.Weight.{view_weight}
use Rattle.pol_views.specs.Weights.{view_updates_weight}
use Rattle.pol_views.specs.declared.metadata.ViewMetadata.{ViewMetadata}
use Rattle.pol_views.specs.declared.update.ViewUpdate.{ViewUpdate}

-- a valid metadata stays valid
abbrev pub ViewStaysValid : Type 0
ViewStaysValid = (meta : ViewMetadata) (updates : List ViewUpdate) (moment : ℕ) (made : ViewMetadata)
    → IsValidView meta → All HasViewForm updates → IsLong moment → view_after meta updates moment ≡ Ok made
    → IsValidView made

-- a list that is refused is so at the place that is told, and not before it
abbrev pub FirstRefusedIsTold : Type 0
FirstRefusedIsTold = (meta : ViewMetadata) (updates : List ViewUpdate) (moment : ℕ) (place : Place)
    → view_after meta updates moment ≡ Err place → IsRefusedThere (after_one moment) (begun meta) updates place

-- a view of at most 100 versions has no more after a list
abbrev pub KeepsAtMostHundred : Type 0
KeepsAtMostHundred = (meta : ViewMetadata) (updates : List ViewUpdate) (moment : ℕ) (made : ViewMetadata)
    → IsValidView meta → length meta.versions ≤ 100 → All HasViewForm updates → IsLong moment
    → view_after meta updates moment ≡ Ok made → length made.versions ≤ 100

-- the metadata and the list weigh at most 2^32 each, so what is made weighs at most 2^40
abbrev pub ViewWeightKeepsBound : Type 0
ViewWeightKeepsBound = (meta : ViewMetadata) (updates : List ViewUpdate) (moment : ℕ) (made : ViewMetadata)
    → view_weight meta ≤ 2 ^ 32 → view_updates_weight updates ≤ 2 ^ 32 → view_after meta updates moment ≡ Ok made
    → view_weight made ≤ 2 ^ 40
