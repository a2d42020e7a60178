-- The tests that members, joins and grants pass which changes may put into a sound state or drop from one. Each looks at
-- the rows that the fact names alone.
use Rattle.std.specs.Prelude.{Bool, false, not, ◌&&◌, ◌||◌, nat_lt, List, length, codes, Option, None, Some}
use Rattle.std.specs.Coded.{Coded}
use Rattle.std.specs.Str.{bytes_eq}
use Rattle.pol_access.specs.Access.{catalog_role_id, principal_id, principal_role_id}
use Rattle.pol_access.specs.Names.{has_name, has_role_name}
use Rattle.pol_access.specs.Privilege.{same_privilege}
use Rattle.pol_access.specs.contracts.rows.GrantRow as grant
use Rattle.pol_access.specs.contracts.rows.JoinRow as join
use Rattle.pol_access.specs.contracts.rows.MemberRow as member
use Rattle.pol_access.specs.declared.privilege.Privilege.{Privilege}
use Rattle.pol_access.specs.declared.privilege.Privilege.TheVariants.{CatalogManageAccess, CatalogManageContent}
use Rattle.pol_access.specs.declared.rows.CatalogRoleRow.{CatalogRoleRow}
use Rattle.pol_access.specs.declared.rows.GrantRow.{GrantRow}
use Rattle.pol_access.specs.declared.rows.JoinRow.{JoinRow}
use Rattle.pol_access.specs.declared.rows.MemberRow.{MemberRow}
use Rattle.pol_access.specs.declared.rows.PrincipalRoleRow.{PrincipalRoleRow}
use Rattle.pol_access.specs.declared.rows.PrincipalRow.{PrincipalRow}
use Rattle.pol_commands.specs.declared.reply.Quantity.{Quantity}
use Rattle.pol_commands.specs.declared.reply.Quantity.TheVariants as quantity
use Rattle.pol_sound_access.specs.Judged.{is_grant_there, is_join_there, is_member_there}
use Rattle.pol_access_steps.specs.declared.counters.Counters.{Counters}
use Rattle.pol_soundness.specs.Judged.{is_within}
use Rattle.pol_state.specs.Bounds.{bound_of}
use Rattle.pol_state.specs.Rows.{Rows}
use Rattle.pol_tables.specs.Facts.{holds}
use Rattle.pol_tables.specs.Table.{row_of}

-- a fact that is there already, or beside which there may be one more
abbrev pub has_place : {T : Type 0} → Coded T → Quantity → T → List T → Bool
has_place code kind fact facts = holds code fact facts || nat_lt (length facts) (bound_of kind)

-- facts that may be put: what they name is there, and a grant is on what lies in the catalogue of its role
abbrev pub may_put_member : Rows → MemberRow → Bool
may_put_member s row =
    is_member_there s.access row && has_place member.the_row.coded quantity.Members row s.access.members

abbrev pub may_put_join : Rows → JoinRow → Bool
may_put_join s row = is_join_there s.access row && has_place join.the_row.coded quantity.Joins row s.access.joins

abbrev pub may_put_grant : Rows → Counters → GrantRow → Bool
may_put_grant s counters row =
    is_grant_there counters.next_id s.access row
    && (is_within s.access s.content row && has_place grant.the_row.coded quantity.Grants row s.access.grants)

-- a member that may be dropped: its principal and its role are there, and it isn't `root` in `service_admin`
abbrev pub is_other_member : Option PrincipalRow → Option PrincipalRoleRow → Bool
is_other_member None role = false
is_other_member (Some principal) None = false
is_other_member (Some principal) (Some role) =
    not (has_name (codes "root") principal && has_role_name (codes "service_admin") role)

abbrev pub may_drop_member : Rows → MemberRow → Bool
may_drop_member s row =
    is_other_member (row_of principal_id row.principal s.access.principals) (row_of principal_role_id row.role s.access.principal_roles)

-- a join that may be dropped: its roles are there, and they aren't `service_admin` and a `catalog_admin`
abbrev pub is_catalog_admin : CatalogRoleRow → Bool
is_catalog_admin row = bytes_eq (codes "catalog_admin") row.name

abbrev pub is_other_join : Option PrincipalRoleRow → Option CatalogRoleRow → Bool
is_other_join None catalog_role = false
is_other_join (Some role) None = false
is_other_join (Some role) (Some catalog_role) =
    not (has_role_name (codes "service_admin") role && is_catalog_admin catalog_role)

abbrev pub may_drop_join : Rows → JoinRow → Bool
may_drop_join s row =
    is_other_join (row_of principal_role_id row.principal_role s.access.principal_roles) (row_of catalog_role_id row.catalog_role s.access.catalog_roles)

-- a grant that may be dropped: its role is there, and it isn't one of the two privileges that a `catalog_admin` has of
-- its catalogue
abbrev pub is_managing : Privilege → Bool
is_managing privilege = same_privilege privilege CatalogManageAccess || same_privilege privilege CatalogManageContent

abbrev pub is_other_grant : Privilege → Option CatalogRoleRow → Bool
is_other_grant privilege None = false
is_other_grant privilege (Some role) = not (is_catalog_admin role && is_managing privilege)

abbrev pub may_drop_grant : Rows → GrantRow → Bool
may_drop_grant s row = is_other_grant row.privilege (row_of catalog_role_id row.catalog_role s.access.catalog_roles)
