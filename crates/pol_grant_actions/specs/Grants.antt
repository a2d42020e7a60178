-- The actions on the grants of catalogue roles.
use Rattle.std.specs.Prelude.{ℕ, List, [], ◌∷◌, filter, filter_map, Option, Some, None, option_and_then}
use Rattle.std.specs.Option.{option_map}
use Rattle.pol_access.specs.Order.{grants_in_order}
use Rattle.pol_access.specs.Referent.{grant_names}
use Rattle.pol_access.specs.contracts.rows.GrantRow as grant_row
use Rattle.pol_access.specs.declared.referent.Referent.TheVariants as referent
use Rattle.pol_access.specs.declared.rows.CatalogRoleRow.{CatalogRoleRow}
use Rattle.pol_access.specs.declared.rows.GrantRow.{GrantRow}
use Rattle.pol_access.specs.declared.securable.Securable.{Securable}
use Rattle.pol_access.specs.declared.securable.Securable.TheVariants as securable
use Rattle.pol_commands.specs.Grants.{grant_on}
use Rattle.pol_commands.specs.declared.command.Command.{Command}
use Rattle.pol_commands.specs.declared.grants.Grant.{Grant}
use Rattle.pol_commands.specs.declared.grants.GrantedOn.{GrantedOn}
use Rattle.pol_commands.specs.declared.grants.GrantedOn.TheVariants as on
use Rattle.pol_commands.specs.declared.reply.Answer.TheVariants.{GrantsListed, GrantAdded, GrantRevoked}
use Rattle.pol_content.specs.Content.{namespace_id}
use Rattle.pol_content.specs.declared.rows.NamespaceRow.{NamespaceRow}
use Rattle.pol_table_rows.specs.Tables.{table_id}
use Rattle.pol_table_rows.specs.declared.row.TableRow.{TableRow}
use Rattle.pol_view_rows.specs.Views.{view_id}
use Rattle.pol_view_rows.specs.declared.row.ViewRow.{ViewRow}
use Rattle.pol_tables.specs.Facts.{facts_with, facts_without}
use Rattle.pol_tables.specs.Table.{row_of}
use Rattle.pol_rules.specs.AccessRules.{catalog_role_at, grant_of, in_catalog, no_catalog_role, no_grant, no_securable, reserved_grant}
use Rattle.pol_rules.specs.Acting.{Acting, done, reading}
use Rattle.pol_state.specs.Rows.{Rows}
use Rattle.pol_rules.specs.Rules.{given, inside}

-- a table by its name in its catalogue
abbrev pub table_named_on : Rows → TableRow → Option GrantedOn
table_named_on s table =
    option_map (λ (row : NamespaceRow). on.Table (record { namespace = row.levels; name = table.name })) (row_of namespace_id table.namespace s.content.namespaces)

-- a view by its name in its catalogue
abbrev pub view_named_on : Rows → ViewRow → Option GrantedOn
view_named_on s view =
    option_map (λ (row : NamespaceRow). on.View (record { namespace = row.levels; name = view.name })) (row_of namespace_id view.namespace s.content.namespaces)

-- the securable that is there by its name in its catalogue
abbrev pub named_on : Rows → Securable → Option GrantedOn
named_on s securable.Realm = None
named_on s (securable.Catalog id) = Some on.Catalog
named_on s (securable.Namespace id) = option_map (λ row. on.Namespace row.levels) (row_of namespace_id id s.content.namespaces)
named_on s (securable.Table id) = option_and_then (table_named_on s) (row_of table_id id s.content.tables)
named_on s (securable.View id) = option_and_then (view_named_on s) (row_of view_id id s.content.views)

-- a grant by the name of what it is on
abbrev pub named_grant : Rows → GrantRow → Option Grant
named_grant s row = option_and_then (grant_on row.privilege) (named_on s row.securable)

-- the grants of a role, in the order of their rows
abbrev pub grants_held : Rows → CatalogRoleRow → List Grant
grants_held s role =
    filter_map (named_grant s) (grants_in_order (filter (grant_names s.access.catalog_roles (referent.CatalogRole role.id)) s.access.grants))

-- listing them
abbrev pub list_grants : Rows → Command → List ℕ → List ℕ → Acting
list_grants s command catalog role =
    reading s (in_catalog s command catalog (inside s catalog (no_catalog_role s role) ∷ [])) (option_map (λ row. GrantsListed (grants_held s row)) (catalog_role_at s catalog role))

-- the rows with a grant, and without one
abbrev pub with_grant : Rows → GrantRow → Rows
with_grant s row = record s { access = record s.access { grants = facts_with grant_row.the_row.coded row s.access.grants } }

abbrev pub without_grant : Rows → GrantRow → Rows
without_grant s row = record s { access = record s.access { grants = facts_without grant_row.the_row.coded row s.access.grants } }

-- granting a privilege to a role of a catalogue
abbrev pub add_grant : Rows → Command → List ℕ → List ℕ → Grant → Acting
add_grant s command catalog role grant = record {
  rules = in_catalog s command catalog (inside s catalog (no_securable s grant.on) ∷ inside s catalog (no_catalog_role s role) ∷ []);
  after = done s (grant_of s catalog role grant) (with_grant s);
  answer = Some GrantAdded;
}

-- revoking a grant
abbrev pub revoke : Rows → Command → List ℕ → List ℕ → Grant → Acting
revoke s command catalog role grant =
    let row = grant_of s catalog role grant in
    record {
      rules = in_catalog s command catalog (inside s catalog (no_securable s grant.on) ∷ inside s catalog (no_catalog_role s role) ∷ given row (no_grant s) ∷ reserved_grant role grant ∷ []);
      after = done s row (without_grant s);
      answer = Some GrantRevoked;
    }
