-- The actions on the memberships of principals.
use Rattle.std.specs.Prelude.{ℕ, List, [], ◌∷◌, map, filter, Some, option_map}
use Rattle.pol_access.specs.Access.{is_member, principal_role_name}
use Rattle.pol_access.specs.Names.{principal_named}
use Rattle.pol_access.specs.Order.{by_name}
use Rattle.pol_access.specs.contracts.rows.MemberRow as member
use Rattle.pol_access.specs.declared.rows.MemberRow.{MemberRow}
use Rattle.pol_access.specs.declared.rows.PrincipalRow.{PrincipalRow}
use Rattle.pol_tables.specs.Facts.{facts_with, facts_without}
use Rattle.pol_rules.specs.AccessRules.{in_realm, member_of, no_member, no_principal, no_principal_role, reserved_member}
use Rattle.pol_rules.specs.Acting.{Acting, done, reading}
use Rattle.pol_state.specs.Rows.{Rows}
use Rattle.pol_rules.specs.Rules.{given}
use Rattle.pol_commands.specs.declared.command.Command.{Command}
use Rattle.pol_commands.specs.declared.reply.Answer.TheVariants.{RolesListed, MemberAdded, MemberEnded}

-- the names of the principal roles of which a principal is a member
abbrev pub roles_held : Rows → PrincipalRow → List (List ℕ)
roles_held s principal =
    map principal_role_name (by_name principal_role_name (filter (λ row. is_member principal.id row.id s.access) s.access.principal_roles))

-- listing them
abbrev pub list_members : Rows → Command → List ℕ → Acting
list_members s command principal =
    reading s (in_realm s command (no_principal s principal ∷ [])) (option_map (λ row. RolesListed (roles_held s row)) (principal_named principal s.access))

-- the rows with a membership, and without one
abbrev pub with_member : Rows → MemberRow → Rows
with_member s row = record s { access = record s.access { members = facts_with member.the_row.coded row s.access.members } }

abbrev pub without_member : Rows → MemberRow → Rows
without_member s row = record s { access = record s.access { members = facts_without member.the_row.coded row s.access.members } }

-- making a principal a member of a principal role
abbrev pub add_member : Rows → Command → List ℕ → List ℕ → Acting
add_member s command principal role = record {
  rules = in_realm s command (no_principal s principal ∷ no_principal_role s role ∷ []);
  after = done s (member_of s principal role) (with_member s);
  answer = Some MemberAdded;
}

-- ending a membership
abbrev pub end_member : Rows → Command → List ℕ → List ℕ → Acting
end_member s command principal role = record {
  rules = in_realm s command (no_principal s principal ∷ no_principal_role s role ∷ given (member_of s principal role) (no_member s role) ∷ reserved_member principal role ∷ []);
  after = done s (member_of s principal role) (without_member s);
  answer = Some MemberEnded;
}
