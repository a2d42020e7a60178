use Rattle.std.proofs.Common.{◌≡◌, ◌+◌, ◌*◌, ◌++◌, flat_map, length}
use Rattle.pol_columnforms.specs.Columns.{chunks, field, type_form}
use Rattle.pol_columncodec.proofs.written.+written.Given as goal

abbrev pub decreases-write_struct : goal.decreases-write_struct
decreases-write_struct l = 8 * l.left

abbrev pub decreases-write_list : goal.decreases-write_list
decreases-write_list l = 8 * l.left

abbrev pub decreases-write_map : goal.decreases-write_map
decreases-write_map l = 8 * l.left

abbrev pub decreases-write_type : goal.decreases-write_type
decreases-write_type l = 8 * l.left + 1

abbrev pub decreases-write_typed : goal.decreases-write_typed
decreases-write_typed l = 8 * l.left + 2

abbrev pub decreases-write_field : goal.decreases-write_field
decreases-write_field l = 8 * l.left + 2

abbrev pub decreases-write_element : goal.decreases-write_element
decreases-write_element l = 8 * l.left + 3

abbrev pub decreases-write_next : goal.decreases-write_next
decreases-write_next l = 8 * l.left + 3

abbrev pub decreases-write_pair : goal.decreases-write_pair
decreases-write_pair l = 8 * l.left + 4

abbrev pub decreases-write_each : goal.decreases-write_each
decreases-write_each l = 8 * l.left + 4

abbrev pub decreases-write_fields : goal.decreases-write_fields
decreases-write_fields l = 8 * l.left + 5

abbrev pub invariant-write_each-loop-column : goal.invariant-write_each-loop-column
invariant-write_each-loop-column l =
    l.written.items ++ flat_map (field l.depth (type_form l.left (l.depth + 1))).write (chunks l.depth l.rest)
    ≡ l.fn.written.items ++ flat_map (field l.depth (type_form l.left (l.depth + 1))).write (chunks l.depth l.columns)

abbrev pub decreases-write_each-loop-column : goal.decreases-write_each-loop-column
decreases-write_each-loop-column l = length l.rest
