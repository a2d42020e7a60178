-- Lists in order.
use Rattle.std.specs.Prelude.{ℕ, List}
use Rattle.std.specs.Cmp.Lexicographic.{slice_cmp}
use Rattle.std.specs.Ordering.{nat_cmp}
use Rattle.std.specs.declared.cmp.Ordering.{Ordering}
use Rattle.pol_access.specs.Order as named
use Rattle.pol_tables.specs.Order.{in_order}
use Rattle.pol_content.specs.declared.rows.CatalogRow.{CatalogRow}
use Rattle.pol_content.specs.declared.rows.NamespaceRow.{NamespaceRow}

abbrev pub catalog_name : CatalogRow → List ℕ
catalog_name row = row.name

-- the catalogues in byte order of their names
abbrev pub by_name : List CatalogRow → List CatalogRow
by_name rows = named.by_name catalog_name rows

-- which of two namespaces comes first: level by level in byte order, a proper prefix first
abbrev pub levels_cmp : NamespaceRow → NamespaceRow → Ordering
levels_cmp left right = slice_cmp (slice_cmp nat_cmp) left.levels right.levels

-- the namespaces in the order of their levels
abbrev pub by_levels : List NamespaceRow → List NamespaceRow
by_levels rows = in_order levels_cmp rows
