-- Rows whose metadata are valid.
use Rattle.std.specs.List.{AllByRecursion}
use Rattle.pol_content.specs.Content.{ContentRows}
use Rattle.pol_meta.specs.Valid.{IsValid}
use Rattle.pol_table_rows.specs.declared.row.TableRow.{TableRow}
use Rattle.pol_view_rows.specs.declared.row.ViewRow.{ViewRow}
use Rattle.pol_views.specs.Valid.{IsValidView}

-- a table or a view whose metadata is valid
abbrev pub HasValidMetadata : TableRow → Type 0
HasValidMetadata row = ∥ IsValid row.metadata ∥₁

abbrev pub HasValidViewMetadata : ViewRow → Type 0
HasValidViewMetadata row = ∥ IsValidView row.metadata ∥₁

-- each metadata is valid
pub record HasValidParts (content : ContentRows) : Type 0 where
  pub tables : AllByRecursion HasValidMetadata content.tables
  pub views : AllByRecursion HasValidViewMetadata content.views
