-- The rows with a view that is altered under its id.
use Rattle.pol_state.specs.Rows.{Rows}
use Rattle.pol_tables.specs.Table.{rows_with}
use Rattle.pol_view_rows.specs.Views.{view_id}
use Rattle.pol_view_rows.specs.declared.row.ViewRow.{ViewRow}

abbrev pub with_altered : Rows → ViewRow → Rows
with_altered s row = record s { content = record s.content { views = rows_with view_id row s.content.views } }
