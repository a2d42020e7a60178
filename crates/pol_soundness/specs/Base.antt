-- The state after changes, and what is known of changes before it is judged.
use Rattle.std.specs.Prelude.{◌≡◌, List}
use Rattle.std.specs.List.{fold}
use Rattle.pol_content.specs.declared.change.Change.{Change}
use Rattle.pol_content.specs.declared.change.Change.TheVariants.{PutTable, PutView}
use Rattle.pol_sound_content.specs.Valid.{HasValidMetadata, HasValidViewMetadata}
use Rattle.pol_state.specs.Applied.{changed}
use Rattle.pol_state.specs.Rows.{Rows}
use Rattle.pol_table_rows.specs.declared.row.TableRow.{TableRow}
use Rattle.pol_view_rows.specs.declared.row.ViewRow.{ViewRow}

-- the state after changes: they are made in their order
unfoldable pub rows_after : List Change → Rows → Rows
rows_after changes s = fold changed s changes

-- the metadata that a change puts is valid
pub record PutsValid (change : Change) : Type 0 where
  pub table : (row : TableRow) → change ≡ PutTable row → HasValidMetadata row
  pub view : (row : ViewRow) → change ≡ PutView row → HasValidViewMetadata row
