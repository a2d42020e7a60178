-- Sound tables.
use Rattle.std.specs.Prelude.{◌≡◌, ◌+◌, ◌≤◌, List}
use Rattle.std.specs.List.{IsDistinct}
use Rattle.pol_locations.specs.Location.{is_overlap, location_text}
use Rattle.pol_meta.specs.Valid.{IsValid}
use Rattle.pol_table_rows.specs.declared.row.TableRow.{TableRow}

-- no two tables overlap
abbrev pub LocationsApart : List TableRow → Type 0
LocationsApart rows = IsDistinct (λ left right. is_overlap left.location right.location) rows

-- a table whose metadata is valid and has its location, and that has moved by commits alone, or once from where it was
-- made
pub record IsSoundTable (row : TableRow) : Type 0 where
  pub metadata : ∥ IsValid row.metadata ∥₁
  pub placed : row.metadata.location ≡ location_text row.location
  pub moved : row.moves ≤ row.version + 1
