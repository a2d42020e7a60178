-- Tables that stand in the places of others.
use Rattle.std.specs.Prelude.{◌≡◌, nat_eq, Bool, not, All, List, filter, map, Some}
use Rattle.std.specs.List.{IsDistinct}
use Rattle.std.specs.Ordering.{nat_cmp}
use Rattle.std.specs.declared.cmp.Ordering.{Ordering}
use Rattle.pol_state.specs.Rows.{Rows}
use Rattle.pol_table_rows.specs.Tables.{table_id}
use Rattle.pol_table_rows.specs.declared.row.TableRow.{TableRow}
use Rattle.pol_tables.specs.Order.{in_order}
use Rattle.pol_tables.specs.Table.{row_of}
use Rattle.pol_commit_actions.specs.Outcome.{CommitTo, CommittedTable}

-- the tables that are to be changed are those of the state
abbrev pub AreThere : Rows → List CommitTo → Type 0
AreThere s commits = All (λ (one : CommitTo). row_of table_id one.row.id s.content.tables ≡ Some one.row) commits

-- each table stands in the place of one that is there, of which there is one alone; one that keeps its version stays as it
-- is
pub record AreReplaced (s : Rows) (tables : List CommittedTable) : Type 0 where
  pub there : All (λ (one : CommittedTable). row_of table_id one.before.id s.content.tables ≡ Some one.before) tables
  pub ids : All (λ (one : CommittedTable). one.after.id ≡ one.before.id) tables
  pub differ : IsDistinct nat_eq (map (λ (one : CommittedTable). one.before.id) tables)
  pub kept : All (λ (one : CommittedTable). one.after.version ≡ one.before.version → one.after ≡ one.before) tables

-- whether a commit changes its table
abbrev pub is_changed : CommittedTable → Bool
is_changed one = not (nat_eq one.after.version one.before.version)

-- tables by their ids
abbrev pub by_id : TableRow → TableRow → Ordering
by_id left right = nat_cmp left.id right.id

-- the rows after of those tables that their commits change, by rising ids
abbrev pub changed_rows : List CommittedTable → List TableRow
changed_rows tables = in_order by_id (map (λ (one : CommittedTable). one.after) (filter is_changed tables))
