-- Catalogues, namespaces, tables and views, as contracts see them.
use Rattle.std.specs.Prelude.{ℕ, Bool, true, false, not, ◌&&◌, ◌==◌, nat_eq, nat_lt, List, length, filter, map, take, Option, Some, None, is_none}
use Rattle.std.specs.Cmp.Lexicographic.{pointwise}
use Rattle.std.specs.List.{find, list_any, range_with_len, starts_with, IsDistinct}
use Rattle.std.specs.Option.{option_map, option_or}
use Rattle.std.specs.Str.{bytes_eq}
use Rattle.pol_names.specs.Namespace.{parent_of}
use Rattle.pol_table_rows.specs.Tables.{holds_table, table_id, table_named}
use Rattle.pol_table_rows.specs.declared.row.TableRow.{TableRow}
use Rattle.pol_tables.specs.Table.{row_of}
use Rattle.pol_view_rows.specs.Views.{holds_view, view_id, view_named}
use Rattle.pol_view_rows.specs.declared.row.ViewRow.{ViewRow}
use Rattle.pol_content.specs.Order.{by_levels}
use Rattle.pol_content.specs.declared.rows.CatalogRow.{CatalogRow}
use Rattle.pol_content.specs.declared.rows.NamespaceRow.{NamespaceRow}

-- the rows, in the order in which they were put
pub record ContentRows : Type 0 where
  pub catalogs : List CatalogRow
  pub namespaces : List NamespaceRow
  pub tables : List TableRow
  pub views : List ViewRow

-- how many more rows need no memory
pub record ContentRoom : Type 0 where
  pub catalogs : ℕ
  pub namespaces : ℕ
  pub tables : ℕ
  pub views : ℕ

pub record ContentValue : Type 0 where
  pub rows : ContentRows
  pub room : ContentRoom

-- what each row is known by
abbrev pub catalog_id : CatalogRow → ℕ
catalog_id row = row.id

abbrev pub namespace_id : NamespaceRow → ℕ
namespace_id row = row.id

-- whether two lists of levels are the same
abbrev pub same_levels : List (List ℕ) → List (List ℕ) → Bool
same_levels left right = pointwise (pointwise nat_eq) left right

-- whether a row has a name
abbrev pub is_catalog_named : List ℕ → CatalogRow → Bool
is_catalog_named name row = bytes_eq name row.name

abbrev pub is_namespace_named : ℕ → List (List ℕ) → NamespaceRow → Bool
is_namespace_named catalog levels row = nat_eq catalog row.catalog && same_levels levels row.levels

-- no two catalogues have one name, and no two namespaces of a catalogue
abbrev pub CatalogNamesDiffer : List CatalogRow → Type 0
CatalogNamesDiffer rows = IsDistinct (λ left right. is_catalog_named left.name right) rows

abbrev pub NamespaceNamesDiffer : List NamespaceRow → Type 0
NamespaceNamesDiffer rows = IsDistinct (λ left right. is_namespace_named left.catalog left.levels right) rows

-- the catalogue of a name, and the namespace of a catalogue with these levels
abbrev pub catalog_named : List ℕ → ContentRows → Option CatalogRow
catalog_named name content = find (is_catalog_named name) content.catalogs

abbrev pub namespace_named : ℕ → List (List ℕ) → ContentRows → Option NamespaceRow
namespace_named catalog levels content = find (is_namespace_named catalog levels) content.namespaces

-- the namespaces in which one stands, by rising length, and then itself: those of its first level, of its first two
-- levels and so on, up to all levels
abbrev pub lineage : List (List ℕ) → List (List (List ℕ))
lineage levels = map (λ depth. take depth levels) (range_with_len 1 (length levels))

-- the first of these that the catalogue doesn't have
abbrev pub is_missing : ℕ → ContentRows → List (List ℕ) → Bool
is_missing catalog content path = is_none (namespace_named catalog path content)

abbrev pub first_missing : ℕ → List (List ℕ) → ContentRows → Option (List (List ℕ))
first_missing catalog levels content = find (is_missing catalog content) (lineage levels)

-- whether levels are one more than a parent's; where there is no parent, whether they are one
abbrev pub same_parent : List (List ℕ) → Option (List (List ℕ)) → Bool
same_parent parent None = false
same_parent parent (Some other) = same_levels parent other

abbrev pub is_child : Option (List (List ℕ)) → List (List ℕ) → Bool
is_child None levels = length levels == 1
is_child (Some parent) levels = same_parent parent (parent_of levels)

-- the namespaces of a catalogue that stand directly below a parent, in the order of their levels
abbrev pub is_child_of : ℕ → Option (List (List ℕ)) → NamespaceRow → Bool
is_child_of catalog parent row = nat_eq row.catalog catalog && is_child parent row.levels

abbrev pub children : ℕ → Option (List (List ℕ)) → ContentRows → List NamespaceRow
children catalog parent content = by_levels (filter (is_child_of catalog parent) content.namespaces)

-- whether a namespace stands below another one, directly or deeper
abbrev pub lies_below : NamespaceRow → NamespaceRow → Bool
lies_below upper row =
    nat_eq row.catalog upper.catalog && nat_lt (length upper.levels) (length row.levels) && starts_with (pointwise nat_eq) row.levels upper.levels

-- whether no namespace stands below the namespace of an id
abbrev pub none_below : Option NamespaceRow → List NamespaceRow → Bool
none_below None rows = true
none_below (Some upper) rows = not (list_any (lies_below upper) rows)

-- whether a namespace holds nothing: neither a deeper one nor a table nor a view
abbrev pub is_empty : ℕ → ContentRows → Bool
is_empty namespace content =
    none_below (row_of namespace_id namespace content.namespaces) content.namespaces
    && not (holds_table namespace content.tables)
    && not (holds_view namespace content.views)

-- the id of what has a name in a namespace: its tables and its views share their names
abbrev pub part_named : ℕ → List ℕ → ContentRows → Option ℕ
part_named namespace name content =
    option_or (option_map table_id (table_named namespace name content.tables)) (option_map view_id (view_named namespace name content.views))

-- whether a catalogue has no namespace
abbrev pub catalog_is_empty : ℕ → ContentRows → Bool
catalog_is_empty catalog content = not (list_any (λ row. nat_eq row.catalog catalog) content.namespaces)
