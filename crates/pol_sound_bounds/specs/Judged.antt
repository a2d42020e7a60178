-- The bounds of a state as tests, each of which is passed exactly where no number is above its bound.
use Rattle.std.specs.Prelude.{ℕ, Bool, ◌&&◌, nat_le, length, is_none}
use Rattle.std.specs.List.{list_all}
use Rattle.pol_access.specs.Access.{AccessRows}
use Rattle.pol_commands.specs.declared.reply.Quantity.{Quantity}
use Rattle.pol_commands.specs.declared.reply.Quantity.TheVariants as quantity
use Rattle.pol_content.specs.Content.{ContentRows}
use Rattle.pol_content.specs.declared.rows.CatalogRow.{CatalogRow}
use Rattle.pol_content.specs.declared.rows.NamespaceRow.{NamespaceRow}
use Rattle.pol_state.specs.Bounds.{allowed_count, bound_of, catalog_properties, namespace_properties, table_over_limit, view_properties, view_schemas, view_version, view_weight}
use Rattle.pol_table_rows.specs.declared.row.TableRow.{TableRow}
use Rattle.pol_view_rows.specs.declared.row.ViewRow.{ViewRow}

-- whether a number isn't above the bound of a quantity
abbrev pub fits : Quantity → ℕ → Bool
fits kind number = nat_le number (bound_of kind)

-- how many rows there are of each kind
abbrev pub holders_fit : AccessRows → Bool
holders_fit access =
    fits quantity.Principals (length access.principals)
    && (fits quantity.PrincipalRoles (length access.principal_roles) && fits quantity.CatalogRoles (length access.catalog_roles))

abbrev pub facts_fit : AccessRows → Bool
facts_fit access =
    fits quantity.Members (length access.members)
    && (fits quantity.Joins (length access.joins) && fits quantity.Grants (length access.grants))

abbrev pub parts_fit : ContentRows → Bool
parts_fit content =
    fits quantity.Catalogs (length content.catalogs)
    && (fits quantity.Namespaces (length content.namespaces)
    && (fits quantity.Tables (length content.tables) && fits quantity.Views (length content.views)))

abbrev pub counters_fit : ℕ → ℕ → Bool
counters_fit next_id next_serial = fits quantity.NextId next_id && fits quantity.NextSerial next_serial

unfoldable pub counts_fit : AccessRows → ContentRows → ℕ → ℕ → Bool
counts_fit access content next_id next_serial =
    parts_fit content && (holders_fit access && (facts_fit access && counters_fit next_id next_serial))

-- the numbers of each row
abbrev pub catalog_fits : CatalogRow → Bool
catalog_fits row = fits quantity.AllowedLocations (allowed_count row) && fits quantity.Properties (catalog_properties row)

abbrev pub namespace_fits : NamespaceRow → Bool
namespace_fits row = fits quantity.Properties (namespace_properties row)

abbrev pub table_fits : TableRow → Bool
table_fits row = is_none (table_over_limit row)

abbrev pub view_fits : ViewRow → Bool
view_fits row =
    fits quantity.Schemas (view_schemas row)
    && (fits quantity.Properties (view_properties row)
    && (fits quantity.Weight (view_weight row) && fits quantity.Version (view_version row)))

unfoldable pub rows_fit : ContentRows → Bool
rows_fit content =
    list_all catalog_fits content.catalogs
    && (list_all namespace_fits content.namespaces
    && (list_all table_fits content.tables && list_all view_fits content.views))

-- no quantity is above its bound
unfoldable pub bounds_fit : AccessRows → ContentRows → ℕ → ℕ → Bool
bounds_fit access content next_id next_serial = counts_fit access content next_id next_serial && rows_fit content
