-- What members, joins and grants name.
use Rattle.std.specs.Prelude.{ℕ, Bool, false, ◌==◌, List, Option, None, Some}
use Rattle.pol_access.specs.contracts.securable.Securable.{the_row}
use Rattle.pol_access.specs.declared.referent.Referent.{Referent}
use Rattle.pol_access.specs.declared.referent.Referent.TheVariants.{Principal, PrincipalRole, CatalogRole, RoleOfCatalog, Securable}
use Rattle.pol_access.specs.declared.rows.CatalogRoleRow.{CatalogRoleRow}
use Rattle.pol_access.specs.declared.rows.GrantRow.{GrantRow}
use Rattle.pol_access.specs.declared.rows.JoinRow.{JoinRow}
use Rattle.pol_access.specs.declared.rows.MemberRow.{MemberRow}
use Rattle.pol_tables.specs.Same.{same}
use Rattle.pol_tables.specs.Table.{row_of}

-- whether the role that was found is the catalogue's, and whether the role of an id is
abbrev pub is_of_catalog : ℕ → Option CatalogRoleRow → Bool
is_of_catalog catalog None = false
is_of_catalog catalog (Some row) = row.catalog == catalog

abbrev pub is_role_of : List CatalogRoleRow → ℕ → ℕ → Bool
is_role_of roles catalog role = is_of_catalog catalog (row_of (λ row. row.id) role roles)

-- whether a member names the referent
abbrev pub member_names : Referent → MemberRow → Bool
member_names (Principal id) row = row.principal == id
member_names (PrincipalRole id) row = row.role == id
member_names (CatalogRole id) row = false
member_names (RoleOfCatalog id) row = false
member_names (Securable one) row = false

-- whether a join names the referent, where the catalogue roles are these
abbrev pub join_names : List CatalogRoleRow → Referent → JoinRow → Bool
join_names roles (Principal id) row = false
join_names roles (PrincipalRole id) row = row.principal_role == id
join_names roles (CatalogRole id) row = row.catalog_role == id
join_names roles (RoleOfCatalog id) row = is_role_of roles id row.catalog_role
join_names roles (Securable one) row = false

-- whether a grant names the referent, where the catalogue roles are these
abbrev pub grant_names : List CatalogRoleRow → Referent → GrantRow → Bool
grant_names roles (Principal id) row = false
grant_names roles (PrincipalRole id) row = false
grant_names roles (CatalogRole id) row = row.catalog_role == id
grant_names roles (RoleOfCatalog id) row = is_role_of roles id row.catalog_role
grant_names roles (Securable one) row = same the_row.coded row.securable one
