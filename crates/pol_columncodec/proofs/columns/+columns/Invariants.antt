use Rattle.std.proofs.Common.{◌≡◌, ◌+◌, ◌*◌, ◌-◌, []}
use Rattle.pol_forms.specs.Reading.{times}
use Rattle.pol_columnforms.specs.Columns.{field, type_form}
use Rattle.pol_columncodec.proofs.FieldLemmas.{with_front}
use Rattle.pol_columncodec.proofs.columns.+columns.Given as goal

abbrev pub decreases-read_struct : goal.decreases-read_struct
decreases-read_struct l = 8 * l.left

abbrev pub decreases-read_list : goal.decreases-read_list
decreases-read_list l = 8 * l.left

abbrev pub decreases-read_map : goal.decreases-read_map
decreases-read_map l = 8 * l.left

abbrev pub decreases-read_type : goal.decreases-read_type
decreases-read_type l = 8 * l.left + 1

abbrev pub decreases-read_field : goal.decreases-read_field
decreases-read_field l = 8 * l.left + 2

abbrev pub decreases-read_element : goal.decreases-read_element
decreases-read_element l = 8 * l.left + 2

abbrev pub decreases-read_pair : goal.decreases-read_pair
decreases-read_pair l = 8 * l.left + 2

abbrev pub decreases-read_each : goal.decreases-read_each
decreases-read_each l = 8 * l.left + 3

abbrev pub decreases-read_listed : goal.decreases-read_listed
decreases-read_listed l = 8 * l.left + 4

abbrev pub decreases-read_fields : goal.decreases-read_fields
decreases-read_fields l = 8 * l.left + 5

abbrev pub invariant-read_each-loop : goal.invariant-read_each-loop
invariant-read_each-loop l =
    with_front l.columns (times (field l.depth (type_form l.left (l.depth + 1))).read (l.count - l.counter) l.unread)
    ≡ with_front [] (times (field l.depth (type_form l.left (l.depth + 1))).read l.count l.fn.unread)
