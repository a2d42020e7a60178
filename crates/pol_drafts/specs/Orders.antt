-- How an update adds a sort order and names the default one.
use Rattle.std.specs.Prelude.{◌==◌, ◌++◌, ◌∷◌, [], ℕ, Bool, not, length, List, Option, None, Some, Result, Ok, Err, if◌then◌else◌}
use Rattle.std.specs.Cmp.Lexicographic.{pointwise}
use Rattle.std.specs.List.{find, list_all}
use Rattle.std.specs.Option.{option_map}
use Rattle.pol_meta.specs.Columns.{has_column}
use Rattle.pol_meta.specs.Valid.{order_ids}
use Rattle.pol_meta.specs.contracts.sort.SortFieldPartialEq.TheImpl as fields_compared
use Rattle.pol_meta.specs.declared.sort.SortField.{SortField}
use Rattle.pol_meta.specs.declared.sort.SortOrder.{SortOrder}
use Rattle.pol_meta.specs.declared.sort.UnboundOrder.{UnboundOrder}
use Rattle.pol_meta.specs.declared.why.Why.{Why}
use Rattle.pol_meta.specs.declared.why.Why.TheVariants.{NoSuchField}
use Rattle.pol_drafts.specs.Drafts.{and_then, current_columns}
use Rattle.pol_drafts.specs.Ids.{chosen, given, next_id}
use Rattle.pol_drafts.specs.declared.draft.Draft.{Draft}
use Rattle.pol_drafts.specs.declared.member.MemberId.{MemberId}

-- whether nothing is sorted
abbrev pub is_unsorted : List SortField → Bool
is_unsorted fields = length fields == 0

-- whether an order is that of these fields: the one of id 0 where nothing is sorted, else one that has the same
abbrev pub is_order_of : List SortField → SortOrder → Bool
is_order_of fields order =
    if is_unsorted fields then order.order_id == 0 else pointwise (fields_compared.ghosts).eq order.fields fields

-- the id of the first order of these fields
abbrev pub same_order_id : List SortField → List SortOrder → Option ℕ
same_order_id fields orders = option_map (λ order. order.order_id) (find (is_order_of fields) orders)

-- the id of an order that is new: 0 where nothing is sorted
abbrev pub new_order_id : List SortField → List ℕ → ℕ
new_order_id fields ids = if is_unsorted fields then 0 else next_id ids

-- an order of this id is the last added
abbrev pub noted_order : ℕ → Draft → Draft
noted_order id d = record d { last_order = Some id }

-- an order stands after the others under a new id
abbrev pub with_order : ℕ → List SortField → Draft → Draft
with_order id fields d = noted_order id (record d {
  meta = record d.meta { sort_orders = d.meta.sort_orders ++ record { order_id = id; fields = fields } ∷ [] };
})

-- an order of these fields is added where there is none
abbrev pub added_order : Option ℕ → List SortField → Draft → Result Draft Why
added_order (Some id) fields d = Ok (noted_order id d)
added_order None fields d =
    and_then (given (new_order_id fields (order_ids d.meta.sort_orders))) (λ id. Ok (with_order id fields d))

unfoldable pub add_order : UnboundOrder → Draft → Result Draft Why
add_order order d =
    if not (list_all (λ field. has_column (current_columns d.meta) field.source_id) order.fields) then Err NoSuchField
    else added_order (same_order_id order.fields d.meta.sort_orders) order.fields d

-- the order that is named becomes the default one
abbrev pub with_default_order : ℕ → Draft → Draft
with_default_order id d = record d { meta = record d.meta { default_sort_order_id = id } }

unfoldable pub set_default_order : MemberId → Draft → Result Draft Why
set_default_order member d =
    and_then (chosen member d.last_order (order_ids d.meta.sort_orders)) (λ id. Ok (with_default_order id d))
