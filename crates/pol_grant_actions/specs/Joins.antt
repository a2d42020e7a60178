-- The actions on joins of principal roles to catalogue roles.
use Rattle.std.specs.Prelude.{ℕ, ◌==◌, ◌&&◌, List, [], ◌∷◌, map, filter, Some, option_map}
use Rattle.pol_access.specs.Access.{catalog_role_name, is_joined}
use Rattle.pol_access.specs.Names.{principal_role_named}
use Rattle.pol_access.specs.Order.{by_name}
use Rattle.pol_access.specs.contracts.rows.JoinRow as join
use Rattle.pol_access.specs.declared.rows.JoinRow.{JoinRow}
use Rattle.pol_access.specs.declared.rows.PrincipalRoleRow.{PrincipalRoleRow}
use Rattle.pol_commands.specs.declared.command.Command.{Command}
use Rattle.pol_commands.specs.declared.reply.Answer.TheVariants.{RolesListed, JoinAdded, JoinEnded}
use Rattle.pol_content.specs.Content.{catalog_named}
use Rattle.pol_content.specs.declared.rows.CatalogRow.{CatalogRow}
use Rattle.pol_tables.specs.Facts.{facts_with, facts_without}
use Rattle.pol_rules.specs.AccessRules.{in_catalog, join_of, no_catalog_role, no_join, no_principal_role, of_both, reserved_join}
use Rattle.pol_rules.specs.Acting.{Acting, done, reading}
use Rattle.pol_state.specs.Rows.{Rows}
use Rattle.pol_rules.specs.Rules.{given, inside}

-- the names of a catalogue's roles to which a principal role is joined
abbrev pub roles_joined : Rows → PrincipalRoleRow → CatalogRow → List (List ℕ)
roles_joined s role catalog =
    map catalog_role_name (by_name catalog_role_name (filter (λ row. row.catalog == catalog.id && is_joined role.id row.id s.access) s.access.catalog_roles))

-- listing them
abbrev pub list_joins : Rows → Command → List ℕ → List ℕ → Acting
list_joins s command catalog role =
    reading s (in_catalog s command catalog (no_principal_role s role ∷ [])) (option_map RolesListed (of_both (roles_joined s) (principal_role_named role s.access) (catalog_named catalog s.content)))

-- the rows with a join, and without one
abbrev pub with_join : Rows → JoinRow → Rows
with_join s row = record s { access = record s.access { joins = facts_with join.the_row.coded row s.access.joins } }

abbrev pub without_join : Rows → JoinRow → Rows
without_join s row = record s { access = record s.access { joins = facts_without join.the_row.coded row s.access.joins } }

-- joining a principal role to a role of a catalogue
abbrev pub add_join : Rows → Command → List ℕ → List ℕ → List ℕ → Acting
add_join s command catalog role catalog_role = record {
  rules = in_catalog s command catalog (no_principal_role s role ∷ inside s catalog (no_catalog_role s catalog_role) ∷ []);
  after = done s (join_of s catalog role catalog_role) (with_join s);
  answer = Some JoinAdded;
}

-- ending a join
abbrev pub end_join : Rows → Command → List ℕ → List ℕ → List ℕ → Acting
end_join s command catalog role catalog_role =
    let row = join_of s catalog role catalog_role in
    record {
      rules = in_catalog s command catalog (no_principal_role s role ∷ inside s catalog (no_catalog_role s catalog_role) ∷ given row (no_join s catalog_role) ∷ reserved_join role catalog_role ∷ []);
      after = done s row (without_join s);
      answer = Some JoinEnded;
    }
