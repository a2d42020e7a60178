-- Sort orders that are asked for (Iceberg table spec, Sort Orders).
use Rattle.std.specs.Prelude.{ℕ, List, [], ◌∷◌}
use Rattle.pol_meta.specs.declared.sort.Direction.{Direction}
use Rattle.pol_meta.specs.declared.sort.Direction.TheVariants.{Asc, Desc}
use Rattle.pol_meta.specs.declared.sort.NullOrder.{NullOrder}
use Rattle.pol_meta.specs.declared.sort.NullOrder.TheVariants.{NullsFirst, NullsLast}
use Rattle.pol_meta.specs.declared.sort.SortField.{SortField}
use Rattle.pol_meta.specs.declared.sort.UnboundOrder.{UnboundOrder}
use Rattle.pol_readers.specs.Shape.{Shape, ◌>>=◌, an_object, done, field, list, one_of, optional}
use Rattle.pol_metajson.specs.Ids.{column_id, id}
use Rattle.pol_metajson.specs.Transform.{transform}
use Rattle.pol_metakeys.specs.declared.keys.TheConstants.{ASC, DESC, DIRECTION, FIELDS, NULL_ORDER, NULLS_FIRST, NULLS_LAST, ORDER_ID, SOURCE_ID, TRANSFORM}

abbrev pub directions : List (List ℕ × Direction)
directions = (ASC.now, Asc) ∷ (DESC.now, Desc) ∷ []

unfoldable pub direction : Shape Direction
direction = one_of directions

abbrev pub null_orders : List (List ℕ × NullOrder)
null_orders = (NULLS_FIRST.now, NullsFirst) ∷ (NULLS_LAST.now, NullsLast) ∷ []

unfoldable pub null_order : Shape NullOrder
null_order = one_of null_orders

unfoldable pub sort_field : Shape SortField
sort_field = do
  _ ← an_object
  transformed ← field TRANSFORM.now transform
  source ← field SOURCE_ID.now column_id
  directed ← field DIRECTION.now direction
  nulls ← field NULL_ORDER.now null_order
  done (record { transform = transformed; source_id = source; direction = directed; null_order = nulls })

-- an id that is given is read for its form alone
unfoldable pub unbound_order : Shape UnboundOrder
unbound_order = do
  _ ← an_object
  _ ← optional ORDER_ID.now id
  fields ← field FIELDS.now (list sort_field)
  done (record { fields = fields })
