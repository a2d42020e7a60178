-- The actions on principal roles.
use Rattle.std.specs.Prelude.{ℕ, ◌+◌, List, [], ◌∷◌, map, codes, Some}
use Rattle.pol_access.specs.Access.{principal_role_dropped, principal_role_id, principal_role_name}
use Rattle.pol_access.specs.Names.{principal_role_named}
use Rattle.pol_access.specs.Order.{by_name}
use Rattle.pol_access.specs.declared.rows.PrincipalRoleRow.{PrincipalRoleRow}
use Rattle.pol_tables.specs.Table.{rows_with}
use Rattle.pol_rules.specs.AccessRules.{in_realm, no_principal_role, reserved}
use Rattle.pol_rules.specs.Acting.{Acting, done, reading}
use Rattle.pol_rules.specs.Rules.{name_taken}
use Rattle.pol_state.specs.Rows.{Rows}
use Rattle.pol_commands.specs.declared.command.Command.{Command}
use Rattle.pol_commands.specs.declared.reply.Answer.TheVariants.{RolesListed, RoleCreated, RoleLoaded, RoleDropped}

-- listing all principal roles
abbrev pub list_principal_roles : Rows → Command → Acting
list_principal_roles s command =
    reading s (in_realm s command []) (Some (RolesListed (map principal_role_name (by_name principal_role_name s.access.principal_roles))))

-- the rows with a principal role that takes the next id
abbrev pub with_principal_role : Rows → PrincipalRoleRow → Rows
with_principal_role s row = record s {
  access = record s.access { principal_roles = rows_with principal_role_id row s.access.principal_roles };
  next_id = s.next_id + 1;
}

-- creating a principal role
abbrev pub create_principal_role : Rows → Command → List ℕ → Acting
create_principal_role s command name = record {
  rules = in_realm s command (name_taken (principal_role_named name s.access) name ∷ []);
  after = with_principal_role s (record { id = s.next_id; name = name });
  answer = Some RoleCreated;
}

-- showing a principal role
abbrev pub get_principal_role : Rows → Command → List ℕ → Acting
get_principal_role s command name = reading s (in_realm s command (no_principal_role s name ∷ [])) (Some (RoleLoaded name))

-- the rows without a principal role, its members and its joins
abbrev pub without_principal_role : Rows → PrincipalRoleRow → Rows
without_principal_role s row = record s { access = principal_role_dropped row.id s.access }

-- dropping a principal role
abbrev pub drop_principal_role : Rows → Command → List ℕ → Acting
drop_principal_role s command name = record {
  rules = in_realm s command (no_principal_role s name ∷ reserved (codes "service_admin") name ∷ []);
  after = done s (principal_role_named name s.access) (without_principal_role s);
  answer = Some RoleDropped;
}
