use Rattle.std.proofs.Common.{◌≡◌, ◌+◌, ◌*◌, ◌++◌, [], drop}
use Rattle.serde_json.specs.View.{items_view}
use Rattle.pol_meta.specs.Columns.{column_ids}
use Rattle.pol_metajson.specs.Chain.{chained_items}
use Rattle.pol_metajson.specs.Schema.{kind_form, read_next}
use Rattle.pol_metajson.proofs.kinds.+kinds.Given as goal

abbrev pub decreases-read_kind : goal.decreases-read_kind
decreases-read_kind l = 8 * l.left

abbrev pub decreases-read_kind_at : goal.decreases-read_kind_at
decreases-read_kind_at l = 8 * l.left + 1

abbrev pub decreases-read_field : goal.decreases-read_field
decreases-read_field l = 8 * l.left + 2

abbrev pub decreases-read_inner : goal.decreases-read_inner
decreases-read_inner l = 8 * l.left + 2

abbrev pub decreases-read_fields : goal.decreases-read_fields
decreases-read_fields l = 8 * l.left + 3

abbrev pub decreases-read_fields_at : goal.decreases-read_fields_at
decreases-read_fields_at l = 8 * l.left + 4

abbrev pub decreases-read_struct : goal.decreases-read_struct
decreases-read_struct l = 8 * l.left + 5

abbrev pub decreases-read_list : goal.decreases-read_list
decreases-read_list l = 8 * l.left + 5

abbrev pub decreases-read_map : goal.decreases-read_map
decreases-read_map l = 8 * l.left + 5

abbrev pub decreases-read_nested : goal.decreases-read_nested
decreases-read_nested l = 8 * l.left + 6

abbrev pub invariant-read_fields-loop-place : goal.invariant-read_fields-loop-place
invariant-read_fields-loop-place l =
    (chained_items (read_next (kind_form l.fn.left) l.fn.depth l.initial.seen) 0 [] (items_view l.item-items)
    ≡ chained_items (read_next (kind_form l.fn.left) l.fn.depth l.initial.seen) l.place l.siblings.columns (items_view (drop l.place l.item-items)))
    × (l.siblings.depth ≡ l.fn.depth)
    × (l.seen ≡ l.initial.seen ++ column_ids l.siblings.columns)
