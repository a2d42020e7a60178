use Rattle.std.specs.Prelude.{IfSome}
use Rattle.std.proofs.Common.{◌≡◌, Bool, List, Option, None, Some, option_and_then, ap, ◌∙◌}
use Rattle.std.specs.Borrow.{Bor}
use Rattle.std.specs.Option.{option_copied}
use Rattle.pol_content.specs.declared.rows.NamespaceRow.{NamespaceRow}
use Rattle.pol_view_rows.specs.Views.{is_view_named, view_id, view_named}
use Rattle.pol_view_rows.specs.declared.row.ViewRow.{ViewRow}
use Rattle.pol_tables.specs.Named.{Finds}
use Rattle.pol_tables.specs.Table.{row_of}
use Rattle.pol_content.proofs.content.Content.view_at.Goals as goal

-- a view that a look-up finds is the one of its id
own : (test : ViewRow → Bool) (rows : List ViewRow) (found : Option (Bor ViewRow)) → Finds view_id test rows (option_copied found) → IfSome found (λ row. row_of view_id row.now.id rows ≡ Some row.now)
own test rows None finds = tt
own test rows (Some row) finds = finds.0

pub returns-in_err-namespace-clause-first : goal.returns-in_err-namespace-clause-first
returns-in_err-namespace-clause-first c names views =
    let within : NamespaceRow → Option ViewRow = λ row. view_named row.id c.args.identifier.now.name c.args.self.now.rows.views in
    rw c.from_residual.ensures (ap (option_and_then within) (c.in_err-namespace.ensures.first names))

pub returns-clause-first : goal.returns-clause-first
returns-clause-first c names views =
    let within : NamespaceRow → Option ViewRow = λ row. view_named row.id c.args.identifier.now.name c.args.self.now.rows.views in
    c.view.ensures.first views ∙ ap (option_and_then within) (c.in_ok-namespace.ensures.first names)

pub returns-clause-own : goal.returns-clause-own
returns-clause-own c =
    own (is_view_named c.in_ok-namespace.namespace.now.id c.args.identifier.now.name) c.args.self.now.rows.views c.view.result c.view.ensures.found
