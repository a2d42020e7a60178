-- The bounds of a state: one table, by which commands are refused and states are sound.
use Rattle.std.specs.Prelude.{◌≡◌, ℕ, ◌^◌, Bool, nat_lt, List, [], ◌∷◌, length, Option, Some, None, if◌then◌else◌}
use Rattle.std.specs.List.{list_any, AllByRecursion}
use Rattle.pol_content.specs.declared.rows.CatalogRow.{CatalogRow}
use Rattle.pol_content.specs.declared.rows.NamespaceRow.{NamespaceRow}
use Rattle.pol_meta.specs.Weight.{metadata_weight}
use Rattle.pol_table_rows.specs.declared.row.TableRow.{TableRow}
use Rattle.pol_view_rows.specs.declared.row.ViewRow.{ViewRow}
use Rattle.pol_views.specs.Weight as of_views
use Rattle.pol_commands.specs.declared.reply.Quantity.{Quantity}
use Rattle.pol_commands.specs.declared.reply.Quantity.TheVariants as quantity
use Rattle.pol_commands.specs.declared.reply.Refusal.{Refusal}
use Rattle.pol_commands.specs.declared.reply.Refusal.TheVariants.{Limit}
use Rattle.pol_state.specs.Rows.{Rows}

-- a rule that refuses where the test holds
abbrev pub refuse_if : Bool → Refusal → Option Refusal
refuse_if test why = if test then Some why else None

-- the first of the rules that fails
abbrev pub first_refusal : List (Option Refusal) → Option Refusal
first_refusal [] = None
first_refusal (None ∷ rules) = first_refusal rules
first_refusal (Some why ∷ rules) = Some why

-- each rule passes
abbrev pub EachPasses : List (Option Refusal) → Type 0
EachPasses rules = AllByRecursion (λ rule. rule ≡ None) rules

-- what the number of a quantity comes to at most: of parts, properties, weight and versions, in one row; of tables of a
-- transaction, in one command
abbrev pub bound_of : Quantity → ℕ
bound_of quantity.Catalogs = 1000
bound_of quantity.Principals = 10000
bound_of quantity.PrincipalRoles = 10000
bound_of quantity.CatalogRoles = 10000
bound_of quantity.Members = 100000
bound_of quantity.Joins = 100000
bound_of quantity.Grants = 100000
bound_of quantity.Namespaces = 100000
bound_of quantity.Tables = 100000
bound_of quantity.Views = 100000
bound_of quantity.AllowedLocations = 100
bound_of quantity.Schemas = 1000
bound_of quantity.PartitionSpecs = 1000
bound_of quantity.SortOrders = 1000
bound_of quantity.Refs = 1000
bound_of quantity.Snapshots = 10000
bound_of quantity.Properties = 1000
bound_of quantity.Weight = 16777216
bound_of quantity.TransactionTables = 100
bound_of quantity.NextId = 2 ^ 62
bound_of quantity.NextSerial = 2 ^ 62
bound_of quantity.Version = 2 ^ 62

-- a number is above the bound of a quantity
abbrev pub above : Quantity → ℕ → Option Refusal
above quantity number = refuse_if (nat_lt (bound_of quantity) number) (Limit quantity (bound_of quantity))

-- a row has a number above the bound of a quantity
abbrev pub any_above : {R : Type 0} → Quantity → (R → ℕ) → List R → Option Refusal
any_above quantity number rows =
    refuse_if (list_any (λ row. nat_lt (bound_of quantity) (number row)) rows) (Limit quantity (bound_of quantity))

-- how many allowed locations and properties rows have
abbrev pub allowed_count : CatalogRow → ℕ
allowed_count row = length row.allowed

abbrev pub catalog_properties : CatalogRow → ℕ
catalog_properties row = length row.properties

abbrev pub namespace_properties : NamespaceRow → ℕ
namespace_properties row = length row.properties

-- how many schemas, partition specs, sort orders, references, snapshots and properties a table has, what its metadata
-- weighs, and its version
abbrev pub schema_count : TableRow → ℕ
schema_count row = length row.metadata.schemas

abbrev pub spec_count : TableRow → ℕ
spec_count row = length row.metadata.partition_specs

abbrev pub order_count : TableRow → ℕ
order_count row = length row.metadata.sort_orders

abbrev pub ref_count : TableRow → ℕ
ref_count row = length row.metadata.refs

abbrev pub snapshot_count : TableRow → ℕ
snapshot_count row = length row.metadata.snapshots

abbrev pub table_properties : TableRow → ℕ
table_properties row = length row.metadata.properties

abbrev pub table_weight : TableRow → ℕ
table_weight row = metadata_weight row.metadata

abbrev pub table_version : TableRow → ℕ
table_version row = row.version

-- how many schemas and properties a view has, what its metadata weighs, and its version
abbrev pub view_schemas : ViewRow → ℕ
view_schemas row = length row.metadata.schemas

abbrev pub view_properties : ViewRow → ℕ
view_properties row = length row.metadata.properties

abbrev pub view_weight : ViewRow → ℕ
view_weight row = of_views.view_weight row.metadata

abbrev pub view_version : ViewRow → ℕ
view_version row = row.version

-- the quantities of a table that are above their bounds
abbrev pub table_limits : TableRow → List (Option Refusal)
table_limits row =
    above quantity.Schemas (schema_count row)
    ∷ above quantity.PartitionSpecs (spec_count row)
    ∷ above quantity.SortOrders (order_count row)
    ∷ above quantity.Refs (ref_count row)
    ∷ above quantity.Snapshots (snapshot_count row)
    ∷ above quantity.Properties (table_properties row)
    ∷ above quantity.Weight (table_weight row)
    ∷ above quantity.Version (table_version row)
    ∷ []

-- the first of them
unfoldable pub table_over_limit : TableRow → Option Refusal
table_over_limit row = first_refusal (table_limits row)

-- the quantities of these rows that are above their bounds
abbrev pub limits : Rows → List (Option Refusal)
limits rows =
    above quantity.Catalogs (length rows.content.catalogs)
    ∷ above quantity.Principals (length rows.access.principals)
    ∷ above quantity.PrincipalRoles (length rows.access.principal_roles)
    ∷ above quantity.CatalogRoles (length rows.access.catalog_roles)
    ∷ above quantity.Members (length rows.access.members)
    ∷ above quantity.Joins (length rows.access.joins)
    ∷ above quantity.Grants (length rows.access.grants)
    ∷ above quantity.Namespaces (length rows.content.namespaces)
    ∷ above quantity.Tables (length rows.content.tables)
    ∷ above quantity.Views (length rows.content.views)
    ∷ any_above quantity.AllowedLocations allowed_count rows.content.catalogs
    ∷ any_above quantity.Schemas schema_count rows.content.tables
    ∷ any_above quantity.PartitionSpecs spec_count rows.content.tables
    ∷ any_above quantity.SortOrders order_count rows.content.tables
    ∷ any_above quantity.Refs ref_count rows.content.tables
    ∷ any_above quantity.Schemas view_schemas rows.content.views
    ∷ any_above quantity.Snapshots snapshot_count rows.content.tables
    ∷ any_above quantity.Properties catalog_properties rows.content.catalogs
    ∷ any_above quantity.Properties namespace_properties rows.content.namespaces
    ∷ any_above quantity.Properties table_properties rows.content.tables
    ∷ any_above quantity.Properties view_properties rows.content.views
    ∷ any_above quantity.Weight table_weight rows.content.tables
    ∷ any_above quantity.Weight view_weight rows.content.views
    ∷ above quantity.NextId rows.next_id
    ∷ above quantity.NextSerial rows.next_serial
    ∷ any_above quantity.Version table_version rows.content.tables
    ∷ any_above quantity.Version view_version rows.content.views
    ∷ []

-- the first of them
unfoldable pub over_limit : Rows → Option Refusal
over_limit rows = first_refusal (limits rows)
