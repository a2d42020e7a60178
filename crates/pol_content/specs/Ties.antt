-- What ties principals and roles to catalogues, namespaces, tables and views.
use Rattle.std.specs.Prelude.{◌≡◌, ◌+◌, ℕ, Bool, true, false, ◌||◌, [], ◌∷◌, ◌++◌, Option, Some, None, option_and_then, codes}
use Rattle.std.specs.List.{AllByRecursion}
use Rattle.std.specs.Option.{option_map}
use Rattle.pol_access.specs.Access.{AccessRows, catalog_role_id, is_joined, principal_id, principal_role_id}
use Rattle.pol_access.specs.Names.{catalog_role_named, principal_role_named}
use Rattle.pol_access.specs.contracts.rows.GrantRow as grant
use Rattle.pol_access.specs.contracts.rows.JoinRow as join
use Rattle.pol_access.specs.declared.privilege.Privilege.{Privilege}
use Rattle.pol_access.specs.declared.privilege.Privilege.TheVariants.{CatalogManageAccess, CatalogManageContent}
use Rattle.pol_access.specs.declared.rows.CatalogRoleRow.{CatalogRoleRow}
use Rattle.pol_access.specs.declared.rows.GrantRow.{GrantRow}
use Rattle.pol_access.specs.declared.rows.JoinRow.{JoinRow}
use Rattle.pol_access.specs.declared.rows.PrincipalRoleRow.{PrincipalRoleRow}
use Rattle.pol_access.specs.declared.securable.Securable.{Securable}
use Rattle.pol_access.specs.declared.securable.Securable.TheVariants as securable
use Rattle.pol_table_rows.specs.Tables.{table_id}
use Rattle.pol_table_rows.specs.declared.row.TableRow.{TableRow}
use Rattle.pol_tables.specs.Facts.{facts_with, holds}
use Rattle.pol_tables.specs.Table.{knows, row_of, rows_with}
use Rattle.pol_view_rows.specs.Views.{view_id}
use Rattle.pol_view_rows.specs.declared.row.ViewRow.{ViewRow}
use Rattle.pol_content.specs.Content.{ContentRows, catalog_id, namespace_id}

-- the catalogue of a namespace
abbrev pub catalog_of_namespace : ℕ → ContentRows → Option ℕ
catalog_of_namespace id content = option_map (λ row. row.catalog) (row_of namespace_id id content.namespaces)

-- the catalogue in which a securable lies that is there: a catalogue lies in itself, a table or a view in that of its
-- namespace, and the realm in none
abbrev pub catalog_of : Securable → ContentRows → Option ℕ
catalog_of securable.Realm content = None
catalog_of (securable.Catalog id) content = option_map (λ row. row.id) (row_of catalog_id id content.catalogs)
catalog_of (securable.Namespace id) content = catalog_of_namespace id content
catalog_of (securable.Table id) content = option_and_then (λ (row : TableRow). catalog_of_namespace row.namespace content) (row_of table_id id content.tables)
catalog_of (securable.View id) content = option_and_then (λ (row : ViewRow). catalog_of_namespace row.namespace content) (row_of view_id id content.views)

-- whether a row of principals and roles has this id, and whether one of catalogues, namespaces, tables and views has
abbrev pub is_access_id : ℕ → AccessRows → Bool
is_access_id id access =
    knows principal_id id access.principals || knows principal_role_id id access.principal_roles || knows catalog_role_id id access.catalog_roles

abbrev pub is_content_id : ℕ → ContentRows → Bool
is_content_id id content =
    knows catalog_id id content.catalogs
    || knows namespace_id id content.namespaces
    || knows table_id id content.tables
    || knows view_id id content.views

-- a grant's securable is there, and lies in the catalogue of the grant's role
pub record IsGrantWithin (access : AccessRows) (content : ContentRows) (row : GrantRow) : Type 0 where
  pub role : CatalogRoleRow
  pub there : row_of catalog_role_id row.catalog_role access.catalog_roles ≡ Some role
  pub within : catalog_of row.securable content ≡ Some role.catalog

-- whether the catalogue role has the privilege on the catalogue
abbrev pub manages : Privilege → ℕ → ℕ → AccessRows → Bool
manages privilege role catalog access =
    holds grant.the_row.coded (record { catalog_role = role; privilege = privilege; securable = securable.Catalog catalog }) access.grants

-- a catalogue has its role `catalog_admin`, which is joined to the principal role `service_admin` and manages the
-- catalogue's access and content
pub record HasAdmin (access : AccessRows) (catalog : ℕ) : Type 0 where
  pub role : CatalogRoleRow
  pub role_there : catalog_role_named catalog (codes "catalog_admin") access ≡ Some role
  pub service : PrincipalRoleRow
  pub service_there : principal_role_named (codes "service_admin") access ≡ Some service
  pub joined : is_joined service.id role.id access ≡ true
  pub manages_access : manages CatalogManageAccess role.id catalog access ≡ true
  pub manages_content : manages CatalogManageContent role.id catalog access ≡ true

-- no catalogue, no namespace, no table and no view has an id of a principal or a role
pub record IdsApart (access : AccessRows) (content : ContentRows) : Type 0 where
  pub catalogs : AllByRecursion (λ row. is_access_id row.id access ≡ false) content.catalogs
  pub namespaces : AllByRecursion (λ row. is_access_id row.id access ≡ false) content.namespaces
  pub tables : AllByRecursion (λ row. is_access_id row.id access ≡ false) content.tables
  pub views : AllByRecursion (λ row. is_access_id row.id access ≡ false) content.views

-- each catalogue role's catalogue is there, each grant lies within its role's catalogue, each catalogue has its
-- `catalog_admin`, and ids are apart
pub record AreTied (access : AccessRows) (content : ContentRows) : Type 0 where
  pub role_catalogs : AllByRecursion (λ row. knows catalog_id row.catalog content.catalogs ≡ true) access.catalog_roles
  pub grants_within : AllByRecursion (IsGrantWithin access content) access.grants
  pub catalog_admins : AllByRecursion (λ row. HasAdmin access row.id) content.catalogs
  pub ids_apart : IdsApart access content

-- the role `catalog_admin` of a catalogue: its id is the one after the catalogue's
abbrev pub admin_of : ℕ → CatalogRoleRow
admin_of catalog = record { id = catalog + 1; catalog = catalog; name = codes "catalog_admin" }

-- the join of a principal role to a catalogue's `catalog_admin`
abbrev pub admin_join : ℕ → ℕ → JoinRow
admin_join service catalog = record { principal_role = service; catalog_role = catalog + 1 }

-- the grant that a catalogue's `catalog_admin` has of a privilege on its catalogue
abbrev pub admin_grant : Privilege → ℕ → GrantRow
admin_grant privilege catalog =
    record { catalog_role = catalog + 1; privilege = privilege; securable = securable.Catalog catalog }

-- the rows once a catalogue of this id is created: with its `catalog_admin`, joined to the principal role
-- `service_admin`, and the two grants
abbrev pub with_admin : ℕ → ℕ → AccessRows → AccessRows
with_admin catalog service access = record access {
  catalog_roles = rows_with catalog_role_id (admin_of catalog) access.catalog_roles;
  joins = facts_with join.the_row.coded (admin_join service catalog) access.joins;
  grants = facts_with grant.the_row.coded (admin_grant CatalogManageContent catalog) (facts_with grant.the_row.coded (admin_grant CatalogManageAccess catalog) access.grants);
}

-- none of these rows is there, and the rows with them last
pub record IsAdminNew (catalog service : ℕ) (access : AccessRows) : Type 0 where
  pub role : knows catalog_role_id (catalog + 1) access.catalog_roles ≡ false
  pub joined : holds join.the_row.coded (admin_join service catalog) access.joins ≡ false
  pub manages_access : holds grant.the_row.coded (admin_grant CatalogManageAccess catalog) access.grants ≡ false
  pub manages_content : holds grant.the_row.coded (admin_grant CatalogManageContent catalog) access.grants ≡ false

abbrev pub with_admin_last : ℕ → ℕ → AccessRows → AccessRows
with_admin_last catalog service access = record access {
  catalog_roles = access.catalog_roles ++ admin_of catalog ∷ [];
  joins = access.joins ++ admin_join service catalog ∷ [];
  grants = access.grants ++ admin_grant CatalogManageAccess catalog ∷ admin_grant CatalogManageContent catalog ∷ [];
}
