-- What a caller needs, and what it may use.
use Rattle.std.specs.Prelude.{ℕ, Bool, true, false, not, List, [], ◌∷◌, Option, Some, None}
use Rattle.std.specs.List.{find}
use Rattle.std.specs.Option.{option_map}
use Rattle.pol_access.specs.Search.{may}
use Rattle.pol_access.specs.declared.privilege.Privilege.{Privilege}
use Rattle.pol_access.specs.declared.privilege.Privilege.TheVariants.{ServiceManageAccess}
use Rattle.pol_access.specs.declared.securable.Securable.{Securable}
use Rattle.pol_access.specs.declared.securable.Securable.TheVariants as securable
use Rattle.pol_content.specs.Chain.{chain_of, deepest, deepest_of_table, deepest_of_view}
use Rattle.pol_content.specs.Content.{catalog_id, namespace_id}
use Rattle.pol_content.specs.declared.rows.CatalogRow.{CatalogRow}
use Rattle.pol_content.specs.declared.rows.NamespaceRow.{NamespaceRow}
use Rattle.pol_names.specs.declared.identifier.Identifier.{Identifier}
use Rattle.pol_table_rows.specs.Tables.{table_id}
use Rattle.pol_table_rows.specs.declared.row.TableRow.{TableRow}
use Rattle.pol_tables.specs.Table.{row_of}
use Rattle.pol_view_rows.specs.Views.{view_id}
use Rattle.pol_view_rows.specs.declared.row.ViewRow.{ViewRow}
use Rattle.pol_tokens.specs.declared.session.SessionRow.{SessionRow}
use Rattle.pol_state.specs.Rows.{Rows}
use Rattle.pol_rules.specs.Rules.{session_of, time_of}
use Rattle.pol_commands.specs.declared.command.Caller.{Caller}
use Rattle.pol_commands.specs.declared.command.Caller.TheVariants.{Nobody, Bearer, Setup}
use Rattle.pol_commands.specs.declared.command.Command.{Command}
use Rattle.pol_rules.specs.declared.needs.Need.{Need}
use Rattle.pol_commands.specs.declared.reply.Refusal.{Refusal}
use Rattle.pol_commands.specs.declared.reply.Refusal.TheVariants.{Forbidden}
use Rattle.pol_commands.specs.declared.securables.SecurableName.{SecurableName}
use Rattle.pol_commands.specs.declared.securables.SecurableName.TheVariants as name

-- whether a caller has what it needs: a session by its roles, and who sets the catalogue up always
abbrev pub session_may : Rows → Option SessionRow → Need → Bool
session_may s None need = false
session_may s (Some row) need = may s.access row.principal row.scope need.privilege (chain_of need.on s.content)

abbrev pub caller_may : Rows → ℕ → Caller → Need → Bool
caller_may s time Nobody need = false
caller_may s time (Bearer text) need = session_may s (session_of s time text) need
caller_may s time Setup need = true

-- the securable as a refusal shows it. One that isn't there would be shown as the realm; the law `needs_are_shown` says
-- that nothing is needed on such a one
abbrev pub catalog_shown : Option CatalogRow → SecurableName
catalog_shown None = name.Realm
catalog_shown (Some row) = name.Catalog row.name

abbrev pub levels_shown : Option CatalogRow → List (List ℕ) → SecurableName
levels_shown None levels = name.Realm
levels_shown (Some row) levels = name.Namespace row.name levels

abbrev pub namespace_shown : Rows → Option NamespaceRow → SecurableName
namespace_shown s None = name.Realm
namespace_shown s (Some row) = levels_shown (row_of catalog_id row.catalog s.content.catalogs) row.levels

abbrev pub identifier_shown : Option CatalogRow → List (List ℕ) → List ℕ → SecurableName
identifier_shown None levels called = name.Realm
identifier_shown (Some row) levels called = name.Table row.name (record { namespace = levels; name = called })

abbrev pub table_shown_in : Rows → List ℕ → Option NamespaceRow → SecurableName
table_shown_in s called None = name.Realm
table_shown_in s called (Some row) = identifier_shown (row_of catalog_id row.catalog s.content.catalogs) row.levels called

abbrev pub table_shown : Rows → Option TableRow → SecurableName
table_shown s None = name.Realm
table_shown s (Some row) = table_shown_in s row.name (row_of namespace_id row.namespace s.content.namespaces)

abbrev pub view_name_shown : Option CatalogRow → List (List ℕ) → List ℕ → SecurableName
view_name_shown None levels called = name.Realm
view_name_shown (Some row) levels called = name.View row.name (record { namespace = levels; name = called })

abbrev pub view_shown_in : Rows → List ℕ → Option NamespaceRow → SecurableName
view_shown_in s called None = name.Realm
view_shown_in s called (Some row) = view_name_shown (row_of catalog_id row.catalog s.content.catalogs) row.levels called

abbrev pub view_shown : Rows → Option ViewRow → SecurableName
view_shown s None = name.Realm
view_shown s (Some row) = view_shown_in s row.name (row_of namespace_id row.namespace s.content.namespaces)

abbrev pub shown : Rows → Securable → SecurableName
shown s securable.Realm = name.Realm
shown s (securable.Catalog id) = catalog_shown (row_of catalog_id id s.content.catalogs)
shown s (securable.Namespace id) = namespace_shown s (row_of namespace_id id s.content.namespaces)
shown s (securable.Table id) = table_shown s (row_of table_id id s.content.tables)
shown s (securable.View id) = view_shown s (row_of view_id id s.content.views)

-- a need isn't met; the first such is told
unfoldable pub first_unmet : Rows → Command → List Need → Option Need
first_unmet s command needs = find (λ need. not (caller_may s (time_of s command) command.caller need)) needs

unfoldable pub forbidden : Rows → Command → List Need → Option Refusal
forbidden s command needs = option_map (λ need. Forbidden need.privilege (shown s need.on)) (first_unmet s command needs)

-- one need
abbrev pub need : Privilege → Securable → List Need
need privilege on = record { privilege = privilege; on = on } ∷ []

-- the management of the realm
abbrev pub service : List Need
service = need ServiceManageAccess securable.Realm

-- a privilege on a catalogue, on the deepest part of a path in it that is there, of a namespace, of a table or of a
-- view, and on a parent, where there is one
abbrev pub on_catalog : Privilege → CatalogRow → List Need
on_catalog privilege catalog = need privilege (securable.Catalog catalog.id)

abbrev pub on_path : Rows → Privilege → List (List ℕ) → CatalogRow → List Need
on_path s privilege levels catalog = need privilege (deepest catalog.id levels s.content)

abbrev pub on_table : Rows → Privilege → Identifier → CatalogRow → List Need
on_table s privilege identifier catalog =
    need privilege (deepest_of_table catalog.id identifier.namespace identifier.name s.content)

abbrev pub on_view : Rows → Privilege → Identifier → CatalogRow → List Need
on_view s privilege identifier catalog =
    need privilege (deepest_of_view catalog.id identifier.namespace identifier.name s.content)

abbrev pub on_parent : Rows → Privilege → Option (List (List ℕ)) → CatalogRow → List Need
on_parent s privilege None catalog = on_catalog privilege catalog
on_parent s privilege (Some parent) catalog = on_path s privilege parent catalog
