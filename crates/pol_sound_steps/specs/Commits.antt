-- Commits to tables of a state, one after the other.
use Rattle.std.specs.Prelude.{◌≡◌, ◌≤◌, ℕ, true, List, Some}
use Rattle.std.specs.List.{AllByRecursion}
use Rattle.pol_content.specs.declared.change.Change.{Change}
use Rattle.pol_content.specs.declared.change.Change.TheVariants.{PutTable}
use Rattle.pol_sound_steps.specs.Steps.{is_commit}
use Rattle.pol_soundness.specs.Base.{rows_after, PutsValid}
use Rattle.pol_state.specs.Rows.{Rows}
use Rattle.pol_state.specs.Sound.{IsSound}
use Rattle.pol_table_rows.specs.Tables.{table_id}
use Rattle.pol_table_rows.specs.declared.row.TableRow.{TableRow}
use Rattle.pol_tables.specs.Table.{row_of}

-- a change that commits to a table of the state, whose id is at least the least
pub record IsCommit (s : Rows) (least : ℕ) (change : Change) (id : ℕ) : Type 0 where
  pub row : TableRow
  pub is : change ≡ PutTable row
  pub id_is : id ≡ row.id
  pub within : least ≤ row.id
  pub old : TableRow
  pub found : row_of table_id row.id s.content.tables ≡ Some old
  pub commits : is_commit old row ≡ true

-- the first of the changes have led from these rows to sound ones, in which each table from the least id on is that of
-- the state
pub record HaveLed (s : Rows) (changes : List Change) (rows : Rows) (least : ℕ) (left : List Change) : Type 0 where
  pub now : Rows
  pub sound : IsSound now
  pub leads : rows_after changes rows ≡ rows_after left now
  pub kept : (id : ℕ) → least ≤ id → row_of table_id id now.content.tables ≡ row_of table_id id s.content.tables
  pub valid : AllByRecursion PutsValid left
