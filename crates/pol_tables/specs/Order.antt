-- Lists in order.
use Rattle.std.specs.Prelude.{if◌then◌else◌, List, [], ◌∷◌}
use Rattle.std.specs.Ordering.{is_lt}
use Rattle.std.specs.declared.cmp.Ordering.{Ordering}

module _ {T : Type 0} (cmp : T → T → Ordering) where
  -- a list in order with one more item, which stands behind those that are less and before all others
  unfoldable pub placed : T → List T → List T
  placed item [] = item ∷ []
  placed item (next ∷ items) = if is_lt (cmp next item) then next ∷ placed item items else item ∷ next ∷ items

  -- the items in rising order, where those of which neither is less stay in their order
  unfoldable pub in_order : List T → List T
  in_order [] = []
  in_order (item ∷ items) = placed item (in_order items)
