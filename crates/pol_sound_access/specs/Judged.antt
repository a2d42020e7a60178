-- The conditions of sound principals and roles as tests, each of which is passed exactly where its condition holds.
use Rattle.std.specs.Prelude.{◌+◌, ℕ, Bool, true, false, not, ◌&&◌, nat_le, nat_lt, List, [], ◌∷◌, codes, Option, Some, None}
use Rattle.std.specs.List.{list_all, list_any}
use Rattle.std.specs.Str.{bytes_eq}
use Rattle.pol_access.specs.Access.{AccessRows, catalog_role_id, client_id_of, is_member, principal_id, principal_name, principal_role_id, principal_role_name}
use Rattle.pol_access.specs.Names.{principal_named, principal_role_named, same_role_name}
use Rattle.pol_access.specs.Privilege.{grantable}
use Rattle.pol_access.specs.Securable.{kind_of}
use Rattle.pol_access.specs.contracts.rows.GrantRow as grant
use Rattle.pol_access.specs.contracts.rows.JoinRow as join
use Rattle.pol_access.specs.contracts.rows.MemberRow as member
use Rattle.pol_access.specs.declared.rows.CatalogRoleRow.{CatalogRoleRow}
use Rattle.pol_access.specs.declared.rows.GrantRow.{GrantRow}
use Rattle.pol_access.specs.declared.rows.JoinRow.{JoinRow}
use Rattle.pol_access.specs.declared.rows.MemberRow.{MemberRow}
use Rattle.pol_access.specs.declared.rows.PrincipalRoleRow.{PrincipalRoleRow}
use Rattle.pol_access.specs.declared.rows.PrincipalRow.{PrincipalRow}
use Rattle.pol_access.specs.declared.securable.Securable.{Securable}
use Rattle.pol_access.specs.declared.securable.Securable.TheVariants as securable
use Rattle.pol_tables.specs.Same.{same}
use Rattle.pol_tables.specs.Table.{knows}

-- whether no two items are alike
unfoldable pub all_differ : {X : Type 0} → (X → X → Bool) → List X → Bool
all_differ alike [] = true
all_differ alike (x ∷ xs) = not (list_any (alike x) xs) && all_differ alike xs

-- whether keys rise, from a least one to below the next one
unfoldable pub rises : {R : Type 0} → (R → ℕ) → ℕ → ℕ → List R → Bool
rises key least next [] = true
rises key least next (row ∷ rows) = nat_le least (key row) && (nat_lt (key row) next && rises key (key row + 1) next rows)

-- whether an id was given out
abbrev pub is_given : ℕ → ℕ → Bool
is_given next_id id = nat_le 1 id && nat_lt id next_id

-- principals and roles
abbrev pub access_numbered : ℕ → AccessRows → Bool
access_numbered next_id access =
    rises principal_id 1 next_id access.principals && (rises principal_role_id 1 next_id access.principal_roles && rises catalog_role_id 1 next_id access.catalog_roles)

abbrev pub same_name : PrincipalRow → PrincipalRow → Bool
same_name left right = bytes_eq (principal_name left) (principal_name right)

abbrev pub same_client : PrincipalRow → PrincipalRow → Bool
same_client left right = bytes_eq (client_id_of left) (client_id_of right)

abbrev pub same_principal_role : PrincipalRoleRow → PrincipalRoleRow → Bool
same_principal_role left right = bytes_eq (principal_role_name left) (principal_role_name right)

abbrev pub access_named : AccessRows → Bool
access_named access =
    all_differ same_name access.principals && (all_differ same_client access.principals && (all_differ same_principal_role access.principal_roles && all_differ same_role_name access.catalog_roles))

-- each member, join and grant stands once
abbrev pub facts_differ : AccessRows → Bool
facts_differ access =
    all_differ (same member.the_row.coded) access.members && (all_differ (same join.the_row.coded) access.joins && all_differ (same grant.the_row.coded) access.grants)

abbrev pub is_no_role : AccessRows → PrincipalRow → Bool
is_no_role access row = not (knows principal_role_id row.id access.principal_roles)

abbrev pub is_catalog_role : ℕ → AccessRows → CatalogRoleRow → Bool
is_catalog_role next_id access row =
    not (knows principal_id row.id access.principals) && (not (knows principal_role_id row.id access.principal_roles) && is_given next_id row.catalog)

abbrev pub is_member_there : AccessRows → MemberRow → Bool
is_member_there access row = knows principal_id row.principal access.principals && knows principal_role_id row.role access.principal_roles

abbrev pub is_join_there : AccessRows → JoinRow → Bool
is_join_there access row = knows principal_role_id row.principal_role access.principal_roles && knows catalog_role_id row.catalog_role access.catalog_roles

abbrev pub is_securable_given : ℕ → Securable → Bool
is_securable_given next_id securable.Realm = true
is_securable_given next_id (securable.Catalog id) = is_given next_id id
is_securable_given next_id (securable.Namespace id) = is_given next_id id
is_securable_given next_id (securable.Table id) = is_given next_id id
is_securable_given next_id (securable.View id) = is_given next_id id

abbrev pub is_grant_there : ℕ → AccessRows → GrantRow → Bool
is_grant_there next_id access row =
    knows catalog_role_id row.catalog_role access.catalog_roles && (is_securable_given next_id row.securable && grantable row.privilege (kind_of row.securable))

abbrev pub access_known : ℕ → AccessRows → Bool
access_known next_id access =
    list_all (is_no_role access) access.principals
    && (list_all (is_catalog_role next_id access) access.catalog_roles
    && (list_all (is_member_there access) access.members
    && (list_all (is_join_there access) access.joins && list_all (is_grant_there next_id access) access.grants)))

-- root, the role `service_admin`, and its membership
abbrev pub is_chain : AccessRows → Option PrincipalRow → Option PrincipalRoleRow → Bool
is_chain access None admin = false
is_chain access (Some root) None = false
is_chain access (Some root) (Some admin) = is_member root.id admin.id access

unfoldable pub has_root_chain : AccessRows → Bool
has_root_chain access = is_chain access (principal_named (codes "root") access) (principal_role_named (codes "service_admin") access)

unfoldable pub is_sound_access : ℕ → AccessRows → Bool
is_sound_access next_id access = access_numbered next_id access && (access_known next_id access && (has_root_chain access && (access_named access && facts_differ access)))
