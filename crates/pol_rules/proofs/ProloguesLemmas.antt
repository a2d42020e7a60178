-- What stops the rules that actions of a kind begin with stops the action.
use Rattle.std.proofs.Common.{◌≡◌, ℕ, List, Option, Some, Result, Err, refl}
use Rattle.std.specs.Bool.{⊤}
use Rattle.std.specs.Result.{IsErrAnd}
use Rattle.pol_access.specs.declared.privilege.Privilege.{Privilege}
use Rattle.pol_tables.specs.Table.{row_of}
use Rattle.pol_content.specs.Content.{catalog_id, catalog_named, namespace_id}
use Rattle.pol_content.specs.declared.rows.CatalogRow.{CatalogRow}
use Rattle.pol_content.specs.declared.rows.NamespaceRow.{NamespaceRow}
use Rattle.pol_names.specs.declared.identifier.Identifier.{Identifier}
use Rattle.pol_table_rows.specs.Tables.{table_id}
use Rattle.pol_table_rows.specs.declared.row.TableRow.{TableRow}
use Rattle.pol_view_rows.specs.Views.{view_id}
use Rattle.pol_view_rows.specs.declared.row.ViewRow.{ViewRow}
use Rattle.pol_commands.specs.declared.command.Command.{Command}
use Rattle.pol_commands.specs.declared.reply.Answer.{Answer}
use Rattle.pol_commands.specs.declared.reply.Refusal.{Refusal}
use Rattle.pol_state.specs.Rows.{Rows}
use Rattle.pol_rules.specs.AccessRules.{in_catalog, in_realm}
use Rattle.pol_rules.specs.Judged.{Does, Enters}
use Rattle.pol_rules.specs.Prologues.{at_table, at_view, namespace_row_at, on_namespace, table_row_at, view_row_at}
use Rattle.pol_rules.specs.declared.rules.Acted.{Acted}
use Rattle.pol_rules.specs.declared.rules.Undone.{Undone}
use Rattle.pol_rules.proofs.JudgedLemmas.{entered-stopped}

module _ (s : Rows) (command : Command) (rules : List (Option Refusal)) (after : Rows) (answer : Option Answer) (why : Undone) (result : Result Acted Undone) (told : IsErrAnd result (λ one. one ≡ why)) where
  pub in_realm_stops : Enters {T = Unit {0}} (in_realm s command) (λ _. ⊤) (Err why) → Does s command (record { rules = in_realm s command rules; after = after; answer = answer }) result
  in_realm_stops entered =
      entered-stopped {T = Unit {0}} (λ _. ⊤) (in_realm s command) s command (record { rules = in_realm s command rules; after = after; answer = answer }) rules why result refl (λ passes. passes) told entered

  pub in_catalog_stops : (name : List ℕ) → Enters {T = CatalogRow} (in_catalog s command name) (λ row. (catalog_named name s.content ≡ Some row) × (row_of catalog_id row.id s.content.catalogs ≡ Some row)) (Err why) → Does s command (record { rules = in_catalog s command name rules; after = after; answer = answer }) result
  in_catalog_stops name entered =
      entered-stopped {T = CatalogRow} (λ row. (catalog_named name s.content ≡ Some row) × (row_of catalog_id row.id s.content.catalogs ≡ Some row)) (in_catalog s command name) s command (record { rules = in_catalog s command name rules; after = after; answer = answer }) rules why result refl (λ passes. passes) told entered

  pub on_namespace_stops : (privilege : Privilege) (name : List ℕ) (levels : List (List ℕ)) → Enters {T = NamespaceRow} (on_namespace s command privilege name levels) (λ row. (namespace_row_at s name levels ≡ Some row) × (row_of namespace_id row.id s.content.namespaces ≡ Some row)) (Err why) → Does s command (record { rules = on_namespace s command privilege name levels rules; after = after; answer = answer }) result
  on_namespace_stops privilege name levels entered =
      entered-stopped {T = NamespaceRow} (λ row. (namespace_row_at s name levels ≡ Some row) × (row_of namespace_id row.id s.content.namespaces ≡ Some row)) (on_namespace s command privilege name levels) s command (record { rules = on_namespace s command privilege name levels rules; after = after; answer = answer }) rules why result refl (λ passes. passes) told entered

  pub at_table_stops : (privilege : Privilege) (name : List ℕ) (identifier : Identifier) → Enters {T = TableRow} (at_table s command privilege name identifier) (λ row. (table_row_at s name identifier ≡ Some row) × (row_of table_id row.id s.content.tables ≡ Some row)) (Err why) → Does s command (record { rules = at_table s command privilege name identifier rules; after = after; answer = answer }) result
  at_table_stops privilege name identifier entered =
      entered-stopped {T = TableRow} (λ row. (table_row_at s name identifier ≡ Some row) × (row_of table_id row.id s.content.tables ≡ Some row)) (at_table s command privilege name identifier) s command (record { rules = at_table s command privilege name identifier rules; after = after; answer = answer }) rules why result refl (λ passes. passes) told entered

  pub at_view_stops : (privilege : Privilege) (name : List ℕ) (identifier : Identifier) → Enters {T = ViewRow} (at_view s command privilege name identifier) (λ row. (view_row_at s name identifier ≡ Some row) × (row_of view_id row.id s.content.views ≡ Some row)) (Err why) → Does s command (record { rules = at_view s command privilege name identifier rules; after = after; answer = answer }) result
  at_view_stops privilege name identifier entered =
      entered-stopped {T = ViewRow} (λ row. (view_row_at s name identifier ≡ Some row) × (row_of view_id row.id s.content.views ≡ Some row)) (at_view s command privilege name identifier) s command (record { rules = at_view s command privilege name identifier rules; after = after; answer = answer }) rules why result refl (λ passes. passes) told entered
