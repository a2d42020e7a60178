-- Tables, as contracts see them.
use Rattle.std.specs.Prelude.{◌≡◌, ℕ, Bool, false, ◌&&◌, nat_eq, List, filter, Option, Some, None}
use Rattle.std.specs.Cmp.Lexicographic.{pointwise, slice_cmp}
use Rattle.std.specs.List.{find, list_any, IsDistinct}
use Rattle.std.specs.Ordering.{nat_cmp}
use Rattle.std.specs.Str.{bytes_eq}
use Rattle.std.specs.declared.cmp.Ordering.{Ordering}
use Rattle.pol_locations.specs.LocationSet.{is_clash}
use Rattle.pol_locations.specs.contracts.location_set.Member.{the_row}
use Rattle.pol_locations.specs.declared.location_set.Member.{Member}
use Rattle.pol_tables.specs.Order.{in_order}
use Rattle.pol_tables.specs.Same.{same}
use Rattle.pol_table_rows.specs.Places.{is_placed}
use Rattle.pol_table_rows.specs.declared.row.TableRow.{TableRow}

-- the rows, in the order in which they were put, and how many more of them need no memory
pub record TablesValue : Type 0 where
  pub rows : List TableRow
  pub room : ℕ

-- what a table is known by
abbrev pub table_id : TableRow → ℕ
table_id row = row.id

abbrev pub table_name : TableRow → List ℕ
table_name row = row.name

-- whether a table of a namespace has a name
abbrev pub is_table_named : ℕ → List ℕ → TableRow → Bool
is_table_named namespace name row = nat_eq namespace row.namespace && bytes_eq name row.name

-- no two tables of a namespace have one name
abbrev pub TableNamesDiffer : List TableRow → Type 0
TableNamesDiffer rows = IsDistinct (λ left right. is_table_named left.namespace left.name right) rows

-- the table of a namespace with this name
abbrev pub table_named : ℕ → List ℕ → List TableRow → Option TableRow
table_named namespace name rows = find (is_table_named namespace name) rows

-- which of two tables comes first: by their names, byte by byte, a proper prefix first
abbrev pub name_cmp : TableRow → TableRow → Ordering
name_cmp left right = slice_cmp nat_cmp left.name right.name

-- the tables of a namespace, in the order of their names
abbrev pub tables_in : ℕ → List TableRow → List TableRow
tables_in namespace rows = in_order name_cmp (filter (λ row. nat_eq row.namespace namespace) rows)

-- whether a namespace has a table
abbrev pub holds_table : ℕ → List TableRow → Bool
holds_table namespace rows = list_any (λ row. nat_eq row.namespace namespace) rows

-- a table's location, as a member of a set of locations
abbrev pub member_of : TableRow → Member
member_of row = record { owner = row.id; location = row.location }

-- whether there is a table, and it lies at the location
abbrev pub stays_at : List (List ℕ) → Option TableRow → Bool
stays_at place None = false
stays_at place (Some known) = pointwise (pointwise nat_eq) known.location place

-- the first table whose location overlaps a wanted one, but for those of some ids; where ids rise it is that of the
-- least id
abbrev pub overlapping : List (List ℕ) → List ℕ → List TableRow → Option TableRow
overlapping wanted except rows = find (λ row. is_clash wanted except (member_of row)) rows

-- the members are the locations of the tables and no others, in any order
abbrev pub ArePlaced : List Member → List TableRow → Type 0
ArePlaced members rows =
    (other : Member) → is_placed other members ≡ list_any (λ row. same the_row.coded other (member_of row)) rows
