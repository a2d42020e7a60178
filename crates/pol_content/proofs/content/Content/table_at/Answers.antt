use Rattle.std.specs.Prelude.{IfSome}
use Rattle.std.proofs.Common.{◌≡◌, Bool, List, Option, None, Some, option_and_then, ap, ◌∙◌}
use Rattle.std.specs.Borrow.{Bor}
use Rattle.std.specs.Option.{option_copied}
use Rattle.pol_content.specs.declared.rows.NamespaceRow.{NamespaceRow}
use Rattle.pol_table_rows.specs.Tables.{is_table_named, table_id, table_named}
use Rattle.pol_table_rows.specs.declared.row.TableRow.{TableRow}
use Rattle.pol_tables.specs.Named.{Finds}
use Rattle.pol_tables.specs.Table.{row_of}
use Rattle.pol_content.proofs.content.Content.table_at.Goals as goal

-- a table that a look-up finds is the one of its id
own : (test : TableRow → Bool) (rows : List TableRow) (found : Option (Bor TableRow)) → Finds table_id test rows (option_copied found) → IfSome found (λ row. row_of table_id row.now.id rows ≡ Some row.now)
own test rows None finds = tt
own test rows (Some row) finds = finds.0

pub returns-in_err-namespace-clause-first : goal.returns-in_err-namespace-clause-first
returns-in_err-namespace-clause-first c names tables =
    let within : NamespaceRow → Option TableRow = λ row. table_named row.id c.args.identifier.now.name c.args.self.now.rows.tables in
    rw c.from_residual.ensures (ap (option_and_then within) (c.in_err-namespace.ensures.first names))

pub returns-clause-first : goal.returns-clause-first
returns-clause-first c names tables =
    let within : NamespaceRow → Option TableRow = λ row. table_named row.id c.args.identifier.now.name c.args.self.now.rows.tables in
    c.table.ensures.first tables ∙ ap (option_and_then within) (c.in_ok-namespace.ensures.first names)

pub returns-clause-own : goal.returns-clause-own
returns-clause-own c =
    own (is_table_named c.in_ok-namespace.namespace.now.id c.args.identifier.now.name) c.args.self.now.rows.tables c.table.result c.table.ensures.found
