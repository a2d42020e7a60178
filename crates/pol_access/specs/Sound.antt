-- Sound principals, roles, members, joins and grants.
use Rattle.std.specs.Prelude.{◌≡◌, ℕ, true, false, List, codes, Some, map}
use Rattle.std.specs.Bool.{⊤}
use Rattle.std.specs.Coded.{Coded}
use Rattle.std.specs.List.{find, AllByRecursion, IsDistinct}
use Rattle.std.specs.Str.{bytes_eq}
use Rattle.pol_access.specs.Access.{AccessRows, principal_id, principal_name, client_id_of, principal_role_id, principal_role_name, catalog_role_id}
use Rattle.pol_access.specs.Names.{has_name, has_role_name, same_role_name}
use Rattle.pol_access.specs.Privilege.{grantable}
use Rattle.pol_access.specs.Securable.{kind_of}
use Rattle.pol_access.specs.contracts.rows.GrantRow as grant
use Rattle.pol_access.specs.contracts.rows.JoinRow as join
use Rattle.pol_access.specs.contracts.rows.MemberRow as member
use Rattle.pol_access.specs.declared.rows.CatalogRoleRow.{CatalogRoleRow}
use Rattle.pol_access.specs.declared.rows.GrantRow.{GrantRow}
use Rattle.pol_access.specs.declared.rows.JoinRow.{JoinRow}
use Rattle.pol_access.specs.declared.rows.MemberRow.{MemberRow}
use Rattle.pol_access.specs.declared.rows.PrincipalRow.{PrincipalRow}
use Rattle.pol_access.specs.declared.rows.PrincipalRoleRow.{PrincipalRoleRow}
use Rattle.pol_access.specs.declared.securable.Securable.{Securable}
use Rattle.pol_access.specs.declared.securable.Securable.TheVariants as securable
use Rattle.pol_tables.specs.Facts.{holds}
use Rattle.pol_tables.specs.Numbered.{AreNumbered, IsGiven}
use Rattle.pol_tables.specs.Same.{same}
use Rattle.pol_tables.specs.Table.{knows}

-- the chain of access that root holds: principal `root`, principal role `service_admin`, and root's membership
pub record HasRootChain (principals : List PrincipalRow) (roles : List PrincipalRoleRow) (members : List MemberRow) : Type 0 where
  pub root : PrincipalRow
  pub admin : PrincipalRoleRow
  pub root_there : find (has_name (codes "root")) principals ≡ Some root
  pub admin_there : find (has_role_name (codes "service_admin")) roles ≡ Some admin
  pub member : holds member.the_row.coded (record { principal = root.id; role = admin.id }) members ≡ true

-- the id that a securable names was given out
abbrev pub IsSecurableGiven : ℕ → Securable → Type 0
IsSecurableGiven next_id securable.Realm = ⊤
IsSecurableGiven next_id (securable.Catalog id) = IsGiven next_id id
IsSecurableGiven next_id (securable.Namespace id) = IsGiven next_id id
IsSecurableGiven next_id (securable.Table id) = IsGiven next_id id
IsSecurableGiven next_id (securable.View id) = IsGiven next_id id

-- a catalogue role's id is no principal's and no principal role's, and its catalogue's id was given out
pub record IsCatalogRoleOf (next_id : ℕ) (principals : List PrincipalRow) (roles : List PrincipalRoleRow) (row : CatalogRoleRow) : Type 0 where
  pub no_principal : knows principal_id row.id principals ≡ false
  pub no_principal_role : knows principal_role_id row.id roles ≡ false
  pub catalog : IsGiven next_id row.catalog

-- a member's principal and role are there
pub record IsMemberOf (principals : List PrincipalRow) (roles : List PrincipalRoleRow) (row : MemberRow) : Type 0 where
  pub principal : knows principal_id row.principal principals ≡ true
  pub role : knows principal_role_id row.role roles ≡ true

-- a join's roles are there
pub record IsJoinOf (roles : List PrincipalRoleRow) (catalog_roles : List CatalogRoleRow) (row : JoinRow) : Type 0 where
  pub principal_role : knows principal_role_id row.principal_role roles ≡ true
  pub catalog_role : knows catalog_role_id row.catalog_role catalog_roles ≡ true

-- a grant's catalogue role is there, and its privilege may be granted on its securable, whose id was given out
pub record IsGrantOf (next_id : ℕ) (catalog_roles : List CatalogRoleRow) (row : GrantRow) : Type 0 where
  pub role : knows catalog_role_id row.catalog_role catalog_roles ≡ true
  pub securable : IsSecurableGiven next_id row.securable
  pub allowed : grantable row.privilege (kind_of row.securable) ≡ true

-- facts that differ, each of which is as it should be
pub record AreFacts {T : Type 0} (code : Coded T) (IsOf : T → Type 0) (facts : List T) : Type 0 where
  pub differ : IsDistinct (same code) facts
  pub each : AllByRecursion IsOf facts

-- sound principals, roles, members, joins and grants
pub record IsSoundAccess (next_id : ℕ) (access : AccessRows) : Type 0 where
  pub principals : AreNumbered principal_id next_id access.principals
  pub principal_roles : AreNumbered principal_role_id next_id access.principal_roles
  pub catalog_roles : AreNumbered catalog_role_id next_id access.catalog_roles
  pub ids_differ : AllByRecursion (λ row. knows principal_role_id row.id access.principal_roles ≡ false) access.principals
  pub names_differ : IsDistinct bytes_eq (map principal_name access.principals)
  pub client_ids_differ : IsDistinct bytes_eq (map client_id_of access.principals)
  pub role_names_differ : IsDistinct bytes_eq (map principal_role_name access.principal_roles)
  pub catalog_roles_known : AllByRecursion (IsCatalogRoleOf next_id access.principals access.principal_roles) access.catalog_roles
  pub catalog_role_names_differ : IsDistinct same_role_name access.catalog_roles
  pub members : AreFacts member.the_row.coded (IsMemberOf access.principals access.principal_roles) access.members
  pub joins : AreFacts join.the_row.coded (IsJoinOf access.principal_roles access.catalog_roles) access.joins
  pub grants : AreFacts grant.the_row.coded (IsGrantOf next_id access.catalog_roles) access.grants
  pub root_chain : HasRootChain access.principals access.principal_roles access.members
