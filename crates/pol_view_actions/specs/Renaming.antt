-- Renaming a view, which may move it into another namespace of its catalogue.
use Rattle.std.specs.Prelude.{ℕ, List, [], ◌∷◌, ◌++◌, Option, Some, option_and_then, option_map}
use Rattle.pol_access.specs.declared.privilege.Privilege.TheVariants.{ViewCreate, ViewDrop}
use Rattle.pol_commands.specs.declared.command.Command.{Command}
use Rattle.pol_commands.specs.declared.reply.Answer.TheVariants.{ViewRenamed}
use Rattle.pol_content.specs.Content.{part_named}
use Rattle.pol_content.specs.declared.rows.CatalogRow.{CatalogRow}
use Rattle.pol_content.specs.declared.rows.NamespaceRow.{NamespaceRow}
use Rattle.pol_names.specs.declared.identifier.Identifier.{Identifier}
use Rattle.pol_state.specs.Rows.{Rows}
use Rattle.pol_rules.specs.Acting.{Acting, done}
use Rattle.pol_rules.specs.Needs.{forbidden, on_path, on_view}
use Rattle.pol_rules.specs.Prologues.{namespace_row_at, view_row_at}
use Rattle.pol_rules.specs.Rules.{given, inside, name_taken, no_catalogue, no_namespace, unauthenticated}
use Rattle.pol_rules.specs.ViewRules.{no_view}
use Rattle.pol_rules.specs.declared.needs.Need.{Need}
use Rattle.pol_view_rows.specs.declared.row.ViewRow.{ViewRow}
use Rattle.pol_view_actions.specs.Altered.{with_altered}

-- what renaming needs: the view may be dropped where it is, and made where it is to be
abbrev pub rename_needs : Rows → Identifier → Identifier → CatalogRow → List Need
rename_needs s source destination catalog =
    on_view s ViewDrop source catalog ++ on_path s ViewCreate destination.namespace catalog

-- a view under another name, in this namespace; all else of it stays
abbrev pub renamed : List ℕ → ViewRow → NamespaceRow → ViewRow
renamed name row namespace = record row { namespace = namespace.id; name = name }

-- the view that is renamed, as it is to be
unfoldable pub renamed_view : Rows → List ℕ → Identifier → Identifier → Option ViewRow
renamed_view s name source destination =
    option_and_then (λ (row : ViewRow). option_map (renamed destination.name row) (namespace_row_at s name destination.namespace)) (view_row_at s name source)

-- renaming a view
abbrev pub rename_view : Rows → Command → List ℕ → Identifier → Identifier → Acting
rename_view s command name source destination = record {
  rules =
      unauthenticated s command
      ∷ no_catalogue s name
      ∷ inside s name (λ catalog. forbidden s command (rename_needs s source destination catalog))
      ∷ inside s name (λ catalog. no_namespace s catalog.id source.namespace)
      ∷ inside s name (λ catalog. no_namespace s catalog.id destination.namespace)
      ∷ inside s name (no_view s source)
      ∷ given (namespace_row_at s name destination.namespace) (λ namespace. name_taken (part_named namespace.id destination.name s.content) destination.name)
      ∷ [];
  after = done s (renamed_view s name source destination) (with_altered s);
  answer = Some ViewRenamed;
}
