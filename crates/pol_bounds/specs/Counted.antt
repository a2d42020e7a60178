-- The quantities of a state once changes are made, judged on the changes alone.
use Rattle.std.specs.Prelude.{ℕ, ◌+◌, ◌-◌, ◌^◌, Bool, List, [], ◌∷◌, length, count_by, Option, Some, None, if◌then◌else◌}
use Rattle.pol_access.specs.Access.{catalog_role_id, principal_id, principal_role_id}
use Rattle.pol_content.specs.Change.{is_kind, puts}
use Rattle.pol_content.specs.Content.{catalog_id, namespace_id}
use Rattle.pol_content.specs.declared.change.Change.{Change}
use Rattle.pol_content.specs.declared.change.Change.TheVariants.{Time, NextId, NextSerial, PutPrincipal, DropPrincipal, PutPrincipalRole, DropPrincipalRole, PutCatalog, DropCatalog, PutCatalogRole, DropCatalogRole, PutNamespace, DropNamespace, PutTable, DropTable, PutView, DropView, PutMember, DropMember, PutJoin, DropJoin, PutGrant, DropGrant, PutSession, PutToken}
use Rattle.pol_content.specs.declared.change.RowKind.{RowKind}
use Rattle.pol_content.specs.declared.change.RowKind.TheVariants as kind
use Rattle.pol_content.specs.declared.rows.CatalogRow.{CatalogRow}
use Rattle.pol_content.specs.declared.rows.NamespaceRow.{NamespaceRow}
use Rattle.pol_commands.specs.declared.reply.Quantity.TheVariants as quantity
use Rattle.pol_commands.specs.declared.reply.Refusal.{Refusal}
use Rattle.pol_bounds.specs.declared.bounds.Counts.{Counts}
use Rattle.pol_bounds.specs.declared.bounds.Own.{Own}
use Rattle.pol_bounds.specs.declared.bounds.Own.TheVariants as own
use Rattle.pol_bounds.specs.declared.bounds.Numbers.{Numbers}
use Rattle.pol_state.specs.Applied.{changed}
use Rattle.pol_state.specs.Bounds.{above, allowed_count, any_above, catalog_properties, first_refusal, namespace_properties, order_count, ref_count, schema_count, snapshot_count, spec_count, table_properties, table_version, table_weight, view_properties, view_schemas, view_version, view_weight}
use Rattle.pol_state.specs.Rows.{Rows}
use Rattle.pol_table_rows.specs.Tables.{table_id}
use Rattle.pol_table_rows.specs.declared.row.TableRow.{TableRow}
use Rattle.pol_tables.specs.Table.{knows}
use Rattle.pol_view_rows.specs.Views.{view_id}
use Rattle.pol_view_rows.specs.declared.row.ViewRow.{ViewRow}

-- this kind, where the state has a row of the id
abbrev pub where_known : RowKind → Bool → Option RowKind
where_known kind known = if known then Some kind else None

-- the kind of the row of the state that a change takes away, or puts another in the place of
abbrev pub kind_taken : Rows → Change → Option RowKind
kind_taken s (Time time) = None
kind_taken s (NextId id) = None
kind_taken s (NextSerial serial) = None
kind_taken s (PutPrincipal row) = where_known kind.Principal (knows principal_id row.id s.access.principals)
kind_taken s (DropPrincipal id) = Some kind.Principal
kind_taken s (PutPrincipalRole row) = where_known kind.PrincipalRole (knows principal_role_id row.id s.access.principal_roles)
kind_taken s (DropPrincipalRole id) = Some kind.PrincipalRole
kind_taken s (PutCatalog row) = where_known kind.Catalog (knows catalog_id row.id s.content.catalogs)
kind_taken s (DropCatalog id) = Some kind.Catalog
kind_taken s (PutCatalogRole row) = where_known kind.CatalogRole (knows catalog_role_id row.id s.access.catalog_roles)
kind_taken s (DropCatalogRole id) = Some kind.CatalogRole
kind_taken s (PutNamespace row) = where_known kind.Namespace (knows namespace_id row.id s.content.namespaces)
kind_taken s (DropNamespace id) = Some kind.Namespace
kind_taken s (PutTable row) = where_known kind.Table (knows table_id row.id s.content.tables)
kind_taken s (DropTable id) = Some kind.Table
kind_taken s (PutView row) = where_known kind.View (knows view_id row.id s.content.views)
kind_taken s (DropView id) = Some kind.View
kind_taken s (PutMember row) = None
kind_taken s (DropMember row) = Some kind.Member
kind_taken s (PutJoin row) = None
kind_taken s (DropJoin row) = Some kind.Join
kind_taken s (PutGrant row) = None
kind_taken s (DropGrant row) = Some kind.Grant
kind_taken s (PutSession row) = None
kind_taken s (PutToken row) = None

abbrev pub takes : RowKind → Rows → Change → Bool
takes wanted s change = is_kind wanted (kind_taken s change)

-- how many rows of a kind there are once the changes are made, of which there were so many
abbrev pub count_after : RowKind → Rows → List Change → ℕ → ℕ
count_after kind s changes before = before + count_by (puts kind) changes - count_by (takes kind s) changes

-- no rows
abbrev pub no_rows : Rows
no_rows = record {
  access = record { principals = []; principal_roles = []; catalog_roles = []; members = []; joins = []; grants = [] };
  content = record { catalogs = []; namespaces = []; tables = []; views = [] };
  tokens = record { sessions = []; tokens = [] };
  time = 0;
  next_id = 0;
  next_serial = 0;
  charged = 0;
}

-- the catalogues, the namespaces, the tables and the views that a change puts: those that it makes of no rows
unfoldable pub catalogs_put : Change → List CatalogRow
catalogs_put change = (changed no_rows change).content.catalogs

unfoldable pub namespaces_put : Change → List NamespaceRow
namespaces_put change = (changed no_rows change).content.namespaces

unfoldable pub tables_put : Change → List TableRow
tables_put change = (changed no_rows change).content.tables

unfoldable pub views_put : Change → List ViewRow
views_put change = (changed no_rows change).content.views

-- a number of the row, where there is one
abbrev pub number_of : {R : Type 0} → (R → ℕ) → List R → ℕ
number_of number [] = 0
number_of number (row ∷ rows) = number row

-- how many locations a catalogue that is put allows, how many properties it has, and a namespace that is put
abbrev pub allowed_put : Change → ℕ
allowed_put change = number_of allowed_count (catalogs_put change)

abbrev pub catalog_properties_put : Change → ℕ
catalog_properties_put change = number_of catalog_properties (catalogs_put change)

abbrev pub namespace_properties_put : Change → ℕ
namespace_properties_put change = number_of namespace_properties (namespaces_put change)

-- the next id that a change sets, and the next serial
unfoldable pub id_set : Change → ℕ
id_set change = (changed no_rows change).next_id

unfoldable pub serial_set : Change → ℕ
serial_set change = (changed no_rows change).next_serial

-- how many schemas, partition specs, sort orders, references, snapshots and properties a table has that is put, its
-- version and the weight of its metadata
abbrev pub schemas_put : Change → ℕ
schemas_put change = number_of schema_count (tables_put change)

abbrev pub specs_put : Change → ℕ
specs_put change = number_of spec_count (tables_put change)

abbrev pub orders_put : Change → ℕ
orders_put change = number_of order_count (tables_put change)

abbrev pub refs_put : Change → ℕ
refs_put change = number_of ref_count (tables_put change)

abbrev pub snapshots_put : Change → ℕ
snapshots_put change = number_of snapshot_count (tables_put change)

abbrev pub table_properties_put : Change → ℕ
table_properties_put change = number_of table_properties (tables_put change)

abbrev pub version_put : Change → ℕ
version_put change = number_of table_version (tables_put change)

abbrev pub weight_put : Change → ℕ
weight_put change = number_of table_weight (tables_put change)

-- how many schemas and properties a view has that is put, its version and the weight of its metadata
abbrev pub view_schemas_put : Change → ℕ
view_schemas_put change = number_of view_schemas (views_put change)

abbrev pub view_properties_put : Change → ℕ
view_properties_put change = number_of view_properties (views_put change)

abbrev pub view_version_put : Change → ℕ
view_version_put change = number_of view_version (views_put change)

abbrev pub view_weight_put : Change → ℕ
view_weight_put change = number_of view_weight (views_put change)

-- the numbers of a change by itself, but for weights
abbrev pub numbers_of : Change → Numbers
numbers_of change = record {
  allowed = allowed_put change;
  catalog_properties = catalog_properties_put change;
  namespace_properties = namespace_properties_put change;
  schemas = schemas_put change;
  specs = specs_put change;
  orders = orders_put change;
  refs = refs_put change;
  snapshots = snapshots_put change;
  table_properties = table_properties_put change;
  version = version_put change;
  view_schemas = view_schemas_put change;
  view_properties = view_properties_put change;
  view_version = view_version_put change;
  next_id = id_set change;
  next_serial = serial_set change;
}

-- the numbers of a table that is put
abbrev pub table_numbers : TableRow → Numbers
table_numbers row = record {
  allowed = 0;
  catalog_properties = 0;
  namespace_properties = 0;
  schemas = schema_count row;
  specs = spec_count row;
  orders = order_count row;
  refs = ref_count row;
  snapshots = snapshot_count row;
  table_properties = table_properties row;
  version = table_version row;
  view_schemas = 0;
  view_properties = 0;
  view_version = 0;
  next_id = 0;
  next_serial = 0;
}

-- the numbers of a view that is put
abbrev pub view_numbers : ViewRow → Numbers
view_numbers row = record {
  allowed = 0;
  catalog_properties = 0;
  namespace_properties = 0;
  schemas = 0;
  specs = 0;
  orders = 0;
  refs = 0;
  snapshots = 0;
  table_properties = 0;
  version = 0;
  view_schemas = view_schemas row;
  view_properties = view_properties row;
  view_version = view_version row;
  next_id = 0;
  next_serial = 0;
}

-- one of them
abbrev pub own_of : Own → Change → ℕ
own_of own.AllowedLocations change = allowed_put change
own_of own.CatalogProperties change = catalog_properties_put change
own_of own.NamespaceProperties change = namespace_properties_put change
own_of own.Schemas change = schemas_put change
own_of own.PartitionSpecs change = specs_put change
own_of own.SortOrders change = orders_put change
own_of own.Refs change = refs_put change
own_of own.Snapshots change = snapshots_put change
own_of own.TableProperties change = table_properties_put change
own_of own.Version change = version_put change
own_of own.ViewSchemas change = view_schemas_put change
own_of own.ViewProperties change = view_properties_put change
own_of own.ViewVersion change = view_version_put change
own_of own.NextId change = id_set change
own_of own.NextSerial change = serial_set change

-- how many rows of each kind there are
abbrev pub counts : Rows → Counts
counts s = record {
  catalogs = length s.content.catalogs;
  principals = length s.access.principals;
  principal_roles = length s.access.principal_roles;
  catalog_roles = length s.access.catalog_roles;
  members = length s.access.members;
  joins = length s.access.joins;
  grants = length s.access.grants;
  namespaces = length s.content.namespaces;
  tables = length s.content.tables;
  views = length s.content.views;
}

-- and once the changes are made
abbrev pub counts_after : Rows → List Change → Counts
counts_after s changes = record {
  catalogs = count_after kind.Catalog s changes (length s.content.catalogs);
  principals = count_after kind.Principal s changes (length s.access.principals);
  principal_roles = count_after kind.PrincipalRole s changes (length s.access.principal_roles);
  catalog_roles = count_after kind.CatalogRole s changes (length s.access.catalog_roles);
  members = count_after kind.Member s changes (length s.access.members);
  joins = count_after kind.Join s changes (length s.access.joins);
  grants = count_after kind.Grant s changes (length s.access.grants);
  namespaces = count_after kind.Namespace s changes (length s.content.namespaces);
  tables = count_after kind.Table s changes (length s.content.tables);
  views = count_after kind.View s changes (length s.content.views);
}

-- the bounds of the rows to which changes lead: of how many there are
abbrev pub limits_of : Counts → List (Option Refusal)
limits_of counts =
    above quantity.Catalogs counts.catalogs
    ∷ above quantity.Principals counts.principals
    ∷ above quantity.PrincipalRoles counts.principal_roles
    ∷ above quantity.CatalogRoles counts.catalog_roles
    ∷ above quantity.Members counts.members
    ∷ above quantity.Joins counts.joins
    ∷ above quantity.Grants counts.grants
    ∷ above quantity.Namespaces counts.namespaces
    ∷ above quantity.Tables counts.tables
    ∷ above quantity.Views counts.views
    ∷ []

-- and of the numbers that the changes put, of which those of a table's and a view's parts stand for one, and those of
-- properties
unfoldable pub part_limits : List Change → Option Refusal
part_limits changes = first_refusal (
    any_above quantity.Schemas schemas_put changes
    ∷ any_above quantity.PartitionSpecs specs_put changes
    ∷ any_above quantity.SortOrders orders_put changes
    ∷ any_above quantity.Refs refs_put changes
    ∷ any_above quantity.Schemas view_schemas_put changes
    ∷ any_above quantity.Snapshots snapshots_put changes
    ∷ [])

unfoldable pub property_limits : List Change → Option Refusal
property_limits changes = first_refusal (
    any_above quantity.Properties catalog_properties_put changes
    ∷ any_above quantity.Properties namespace_properties_put changes
    ∷ any_above quantity.Properties table_properties_put changes
    ∷ any_above quantity.Properties view_properties_put changes
    ∷ [])

abbrev pub limits_put : List Change → List (Option Refusal)
limits_put changes =
    any_above quantity.AllowedLocations allowed_put changes
    ∷ part_limits changes
    ∷ property_limits changes
    ∷ any_above quantity.Weight weight_put changes
    ∷ any_above quantity.Weight view_weight_put changes
    ∷ any_above quantity.NextId id_set changes
    ∷ any_above quantity.NextSerial serial_set changes
    ∷ any_above quantity.Version version_put changes
    ∷ any_above quantity.Version view_version_put changes
    ∷ []
