-- The rules that actions on what is in a catalogue begin with.
use Rattle.std.specs.Prelude.{ℕ, List, ◌∷◌, Option, option_and_then}
use Rattle.pol_access.specs.declared.privilege.Privilege.{Privilege}
use Rattle.pol_commands.specs.declared.command.Command.{Command}
use Rattle.pol_commands.specs.declared.reply.Refusal.{Refusal}
use Rattle.pol_content.specs.Chain.{table_at, view_at}
use Rattle.pol_content.specs.Content.{catalog_named, namespace_named}
use Rattle.pol_content.specs.declared.rows.CatalogRow.{CatalogRow}
use Rattle.pol_content.specs.declared.rows.NamespaceRow.{NamespaceRow}
use Rattle.pol_names.specs.declared.identifier.Identifier.{Identifier}
use Rattle.pol_table_rows.specs.declared.row.TableRow.{TableRow}
use Rattle.pol_view_rows.specs.declared.row.ViewRow.{ViewRow}
use Rattle.pol_state.specs.Rows.{Rows}
use Rattle.pol_rules.specs.Needs.{forbidden, on_path, on_table, on_view}
use Rattle.pol_rules.specs.Rules.{inside, no_catalogue, no_namespace, unauthenticated}
use Rattle.pol_rules.specs.TableRules.{no_table}
use Rattle.pol_rules.specs.ViewRules.{no_view}

-- the namespace of these levels in the catalogue of a name
unfoldable pub namespace_row_at : Rows → List ℕ → List (List ℕ) → Option NamespaceRow
namespace_row_at s name levels =
    option_and_then (λ (catalog : CatalogRow). namespace_named catalog.id levels s.content) (catalog_named name s.content)

-- the rules of an action on a namespace that must be there and on which a privilege is needed, before its own
abbrev pub on_namespace : Rows → Command → Privilege → List ℕ → List (List ℕ) → List (Option Refusal) → List (Option Refusal)
on_namespace s command privilege name levels rules =
    unauthenticated s command ∷ no_catalogue s name ∷ inside s name (λ catalog. forbidden s command (on_path s privilege levels catalog)) ∷ inside s name (λ catalog. no_namespace s catalog.id levels) ∷ rules

-- the table of an identifier in the catalogue of a name
unfoldable pub table_row_at : Rows → List ℕ → Identifier → Option TableRow
table_row_at s name identifier =
    option_and_then (λ (catalog : CatalogRow). table_at catalog.id identifier.namespace identifier.name s.content) (catalog_named name s.content)

-- the rules of an action on a table that must be there and on which a privilege is needed, before its own
abbrev pub at_table : Rows → Command → Privilege → List ℕ → Identifier → List (Option Refusal) → List (Option Refusal)
at_table s command privilege name identifier rules =
    unauthenticated s command ∷ no_catalogue s name ∷ inside s name (λ catalog. forbidden s command (on_table s privilege identifier catalog))
    ∷ inside s name (λ catalog. no_namespace s catalog.id identifier.namespace) ∷ inside s name (no_table s identifier) ∷ rules

-- the view of an identifier in the catalogue of a name
unfoldable pub view_row_at : Rows → List ℕ → Identifier → Option ViewRow
view_row_at s name identifier =
    option_and_then (λ (catalog : CatalogRow). view_at catalog.id identifier.namespace identifier.name s.content) (catalog_named name s.content)

-- the rules of an action on a view that must be there and on which a privilege is needed, before its own
abbrev pub at_view : Rows → Command → Privilege → List ℕ → Identifier → List (Option Refusal) → List (Option Refusal)
at_view s command privilege name identifier rules =
    unauthenticated s command ∷ no_catalogue s name ∷ inside s name (λ catalog. forbidden s command (on_view s privilege identifier catalog))
    ∷ inside s name (λ catalog. no_namespace s catalog.id identifier.namespace) ∷ inside s name (no_view s identifier) ∷ rules
