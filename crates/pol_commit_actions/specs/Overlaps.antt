-- How the overlapping table of the least id is sought among tables in any order.
use Rattle.std.specs.Prelude.{nat_eq, nat_lt, ◌&&◌, Bool, not, List, Option, None, Some, if◌then◌else◌}
use Rattle.std.specs.List.{fold}
use Rattle.pol_locations.specs.Location.{is_overlap}
use Rattle.pol_table_rows.specs.declared.row.TableRow.{TableRow}

-- that of two tables that has the lesser id
abbrev pub lesser : Option TableRow → Option TableRow → Option TableRow
lesser None other = other
lesser (Some one) None = Some one
lesser (Some one) (Some other) = if nat_lt other.id one.id then Some other else Some one

-- whether another table overlaps one
abbrev pub is_over : TableRow → TableRow → Bool
is_over row other = not (nat_eq other.id row.id) && is_overlap other.location row.location

-- the table of the least id, of those that overlap one
abbrev pub lesser_over : TableRow → Option TableRow → TableRow → Option TableRow
lesser_over row least other = if is_over row other then lesser least (Some other) else least

unfoldable pub least_over : TableRow → List TableRow → Option TableRow
least_over row others = fold (lesser_over row) None others
