-- Principals, roles, members, joins and grants, as contracts see them, and the rows after each call.
use Rattle.std.specs.Prelude.{◌≤◌, ◌+◌, ℕ, Bool, not, ◌==◌, ◌&&◌, List, filter}
use Rattle.std.specs.List.{count_by, list_any}
use Rattle.std.specs.Str.{bytes_eq}
use Rattle.pol_access.specs.Referent.{grant_names, join_names, member_names}
use Rattle.pol_access.specs.contracts.rows.JoinRow as join
use Rattle.pol_access.specs.contracts.rows.MemberRow as member
use Rattle.pol_access.specs.declared.access.AccessRoom.{AccessRoom}
use Rattle.pol_access.specs.declared.referent.Referent.{Referent}
use Rattle.pol_access.specs.declared.referent.Referent.TheVariants as referent
use Rattle.pol_access.specs.declared.referent.Referent.TheVariants.{Principal, PrincipalRole, CatalogRole, RoleOfCatalog}
use Rattle.pol_access.specs.declared.rows.CatalogRoleRow.{CatalogRoleRow}
use Rattle.pol_access.specs.declared.rows.GrantRow.{GrantRow}
use Rattle.pol_access.specs.declared.rows.JoinRow.{JoinRow}
use Rattle.pol_access.specs.declared.rows.MemberRow.{MemberRow}
use Rattle.pol_access.specs.declared.rows.PrincipalRow.{PrincipalRow}
use Rattle.pol_access.specs.declared.rows.PrincipalRoleRow.{PrincipalRoleRow}
use Rattle.pol_access.specs.declared.securable.Securable.{Securable}
use Rattle.pol_tables.specs.Facts.{holds}
use Rattle.pol_tables.specs.Table.{rows_without}

-- the rows, in the order in which they were put
pub record AccessRows : Type 0 where
  pub principals : List PrincipalRow
  pub principal_roles : List PrincipalRoleRow
  pub catalog_roles : List CatalogRoleRow
  pub members : List MemberRow
  pub joins : List JoinRow
  pub grants : List GrantRow

-- the rows, and how many more of each need no memory
pub record AccessValue : Type 0 where
  pub rows : AccessRows
  pub room : AccessRoom

-- each count is within the room for it
pub record IsWithin (more room : AccessRoom) : Type 0 where
  pub principals : more.principals ≤ room.principals
  pub principal_roles : more.principal_roles ≤ room.principal_roles
  pub catalog_roles : more.catalog_roles ≤ room.catalog_roles
  pub members : more.members ≤ room.members
  pub joins : more.joins ≤ room.joins
  pub grants : more.grants ≤ room.grants

-- what each row is known by
abbrev pub principal_id : PrincipalRow → ℕ
principal_id row = row.id

abbrev pub principal_name : PrincipalRow → List ℕ
principal_name row = row.name

abbrev pub client_id_of : PrincipalRow → List ℕ
client_id_of row = row.client_id

abbrev pub principal_role_id : PrincipalRoleRow → ℕ
principal_role_id row = row.id

abbrev pub principal_role_name : PrincipalRoleRow → List ℕ
principal_role_name row = row.name

abbrev pub catalog_role_id : CatalogRoleRow → ℕ
catalog_role_id row = row.id

abbrev pub catalog_role_name : CatalogRoleRow → List ℕ
catalog_role_name row = row.name

-- whether the principal is a member of the role
abbrev pub is_member : ℕ → ℕ → AccessRows → Bool
is_member principal role access = holds member.the_row.coded (record { principal = principal; role = role }) access.members

-- whether the principal role is joined to the catalogue role
abbrev pub is_joined : ℕ → ℕ → AccessRows → Bool
is_joined principal_role catalog_role access = holds join.the_row.coded (record { principal_role = principal_role; catalog_role = catalog_role }) access.joins

-- how many members, joins and grants name the referent
abbrev pub names_in : Referent → AccessRows → ℕ
names_in one access =
    count_by (member_names one) access.members + (count_by (join_names access.catalog_roles one) access.joins + count_by (grant_names access.catalog_roles one) access.grants)

-- whether a catalogue has a role beside the one of this name
abbrev pub has_other_role : ℕ → List ℕ → AccessRows → Bool
has_other_role catalog name access = list_any (λ row. row.catalog == catalog && not (bytes_eq name row.name)) access.catalog_roles

-- the principal roles of which a principal is a member
abbrev pub held_roles : ℕ → AccessRows → List PrincipalRoleRow
held_roles principal access = filter (λ row. is_member principal row.id access) access.principal_roles

-- the roles of a catalogue, and those of them to which a principal role is joined
abbrev pub own_roles : ℕ → AccessRows → List CatalogRoleRow
own_roles catalog access = filter (λ row. row.catalog == catalog) access.catalog_roles

abbrev pub own_joined_roles : ℕ → ℕ → AccessRows → List CatalogRoleRow
own_joined_roles principal_role catalog access =
    filter (λ row. row.catalog == catalog && is_joined principal_role row.id access) access.catalog_roles

-- the facts that don't name what is dropped
abbrev pub unnamed : {T : Type 0} → (T → Bool) → List T → List T
unnamed names facts = filter (λ fact. not (names fact)) facts

-- the rows once a row is dropped, and with it what names it
abbrev pub principal_dropped : ℕ → AccessRows → AccessRows
principal_dropped id access = record access {
  principals = rows_without principal_id id access.principals;
  members = unnamed (member_names (Principal id)) access.members;
}

abbrev pub principal_role_dropped : ℕ → AccessRows → AccessRows
principal_role_dropped id access = record access {
  principal_roles = rows_without principal_role_id id access.principal_roles;
  members = unnamed (member_names (PrincipalRole id)) access.members;
  joins = unnamed (join_names access.catalog_roles (PrincipalRole id)) access.joins;
}

abbrev pub catalog_role_dropped : ℕ → AccessRows → AccessRows
catalog_role_dropped id access = record access {
  catalog_roles = rows_without catalog_role_id id access.catalog_roles;
  joins = unnamed (join_names access.catalog_roles (CatalogRole id)) access.joins;
  grants = unnamed (grant_names access.catalog_roles (CatalogRole id)) access.grants;
}

-- the rows once a catalogue is dropped: without its roles and what names one of them
abbrev pub catalog_roles_dropped : ℕ → AccessRows → AccessRows
catalog_roles_dropped catalog access = record access {
  catalog_roles = filter (λ row. not (row.catalog == catalog)) access.catalog_roles;
  joins = unnamed (join_names access.catalog_roles (RoleOfCatalog catalog)) access.joins;
  grants = unnamed (grant_names access.catalog_roles (RoleOfCatalog catalog)) access.grants;
}

-- the rows once a securable is dropped: without the grants on it
abbrev pub grants_on_dropped : Securable → AccessRows → AccessRows
grants_on_dropped gone access =
    record access { grants = unnamed (grant_names access.catalog_roles (referent.Securable gone)) access.grants }
