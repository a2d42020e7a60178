-- Sound views.
use Rattle.std.specs.Prelude.{◌≡◌, ◌≤◌, None, length}
use Rattle.pol_locations.specs.Location.{parse_refusal}
use Rattle.pol_views.specs.Valid.{IsValidView}
use Rattle.pol_views.specs.declared.metadata.ViewMetadata.{ViewMetadata}
use Rattle.pol_view_rows.specs.declared.row.ViewRow.{ViewRow}

-- a valid metadata that has at most 100 versions
pub record IsKept (meta : ViewMetadata) : Type 0 where
  pub valid : IsValidView meta
  pub few : length meta.versions ≤ 100

-- a view whose metadata is so, and whose location is one
pub record IsSoundView (row : ViewRow) : Type 0 where
  pub metadata : ∥ IsKept row.metadata ∥₁
  pub placed : parse_refusal row.metadata.location ≡ None
