-- Views, as contracts see them.
use Rattle.std.specs.Prelude.{ℕ, Bool, ◌&&◌, nat_eq, List, filter, Option}
use Rattle.std.specs.Cmp.Lexicographic.{slice_cmp}
use Rattle.std.specs.List.{find, list_any, IsDistinct}
use Rattle.std.specs.Ordering.{nat_cmp}
use Rattle.std.specs.Str.{bytes_eq}
use Rattle.std.specs.declared.cmp.Ordering.{Ordering}
use Rattle.pol_tables.specs.Order.{in_order}
use Rattle.pol_view_rows.specs.declared.row.ViewRow.{ViewRow}

-- what a view is known by
abbrev pub view_id : ViewRow → ℕ
view_id row = row.id

abbrev pub view_name : ViewRow → List ℕ
view_name row = row.name

-- whether a view of a namespace has a name
abbrev pub is_view_named : ℕ → List ℕ → ViewRow → Bool
is_view_named namespace name row = nat_eq namespace row.namespace && bytes_eq name row.name

-- no two views of a namespace have one name
abbrev pub ViewNamesDiffer : List ViewRow → Type 0
ViewNamesDiffer rows = IsDistinct (λ left right. is_view_named left.namespace left.name right) rows

-- the view of a namespace with this name
abbrev pub view_named : ℕ → List ℕ → List ViewRow → Option ViewRow
view_named namespace name rows = find (is_view_named namespace name) rows

-- which of two views comes first: by their names, byte by byte, a proper prefix first
abbrev pub name_cmp : ViewRow → ViewRow → Ordering
name_cmp left right = slice_cmp nat_cmp left.name right.name

-- the views of a namespace, in the order of their names
abbrev pub views_in : ℕ → List ViewRow → List ViewRow
views_in namespace rows = in_order name_cmp (filter (λ row. nat_eq row.namespace namespace) rows)

-- whether a namespace has a view
abbrev pub holds_view : ℕ → List ViewRow → Bool
holds_view namespace rows = list_any (λ row. nat_eq row.namespace namespace) rows
