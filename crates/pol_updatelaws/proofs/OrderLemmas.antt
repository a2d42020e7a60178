-- What updates of sort orders keep.
use Rattle.std.proofs.Common.{◌≡◌, ◌==◌, ◌||◌, ℕ, Bool, true, false, List, [], ◌∷◌, ◌++◌, not, cond, length, Option, None, Some, Result, Ok, refl, sym, subst, arith, nat_eq}
use Rattle.std.specs.List.{All, Contains, find, list_all, list_any}
use Rattle.std.specs.Option.{option_map}
use Rattle.std.proofs.lemmas.Bool.{eqb-true, ne_eqb}
use Rattle.pol_meta.specs.Columns.{has_column}
use Rattle.pol_meta.specs.Valid.{IsId, IsSortField, IsSortOrder, order_ids}
use Rattle.pol_meta.specs.declared.sort.SortField.{SortField}
use Rattle.pol_meta.specs.declared.sort.SortOrder.{SortOrder}
use Rattle.pol_meta.specs.declared.sort.UnboundOrder.{UnboundOrder}
use Rattle.pol_meta.specs.declared.why.Why.{Why}
use Rattle.pol_meta.specs.declared.why.Why.TheVariants.{NoSuchField}
use Rattle.pol_drafts.specs.Drafts.{current_columns}
use Rattle.pol_drafts.specs.Ids.{chosen, given}
use Rattle.pol_drafts.specs.Orders.{add_order, added_order, is_order_of, is_unsorted, new_order_id, noted_order, same_order_id, set_default_order, with_default_order, with_order}
use Rattle.pol_drafts.specs.declared.draft.Draft.{Draft}
use Rattle.pol_drafts.specs.declared.member.MemberId.{MemberId}
use Rattle.pol_updatelaws.proofs.ChainLemmas.{goes_on, passes_rule}
use Rattle.pol_updatelaws.proofs.MemberLemmas.{MembersAre, found_id, given_is, members_named, members_noted, members_pushed, named_there, next_is_new}

abbrev pub OrdersAre : List SortOrder → ℕ → Option ℕ → Type 0
OrdersAre orders now last = MembersAre IsSortOrder (λ order. order.order_id) orders now last

-- an order that is added is one that is there, or a new one
added_cases : (P : Draft → Type 0) (found : Option ℕ) (fields : List SortField) (d next : Draft)
    → same_order_id fields d.meta.sort_orders ≡ found → added_order found fields d ≡ Ok next
    → ((id : ℕ) → Contains (order_ids d.meta.sort_orders) id → P (noted_order id d))
    → ((id : ℕ) → same_order_id fields d.meta.sort_orders ≡ None → new_order_id fields (order_ids d.meta.sort_orders) ≡ id
    → IsId id → P (with_order id fields d)) → P next
added_cases P (Some id) fields d next is told there new =
    let same : noted_order id d ≡ next = cc in
    subst P same (there id (found_id (λ order. order.order_id) (is_order_of fields) d.meta.sort_orders id is))
added_cases P None fields d next is told there new =
    let step = goes_on (given (new_order_id fields (order_ids d.meta.sort_orders))) (λ id. Ok (with_order id fields d)) next told in
    let id = given_is (new_order_id fields (order_ids d.meta.sort_orders)) step.0 step.1 in
    let made : ◌≡◌ {A = Result Draft Why} (Ok (with_order step.0 fields d)) (Ok next) = step.2 in
    let same : with_order step.0 fields d ≡ next = cc in
    subst P same (new step.0 is id.0 id.1)

pub add_order_cases : (P : Draft → Type 0) (order : UnboundOrder) (d next : Draft) → add_order order d ≡ Ok next
    → ((id : ℕ) → Contains (order_ids d.meta.sort_orders) id → P (noted_order id d))
    → ((id : ℕ) → same_order_id order.fields d.meta.sort_orders ≡ None
    → new_order_id order.fields (order_ids d.meta.sort_orders) ≡ id → IsId id → P (with_order id order.fields d)) → P next
unfolding add_order
add_order_cases P order d next told there new =
    let step = passes_rule (not (list_all (λ field. has_column (current_columns d.meta) field.source_id) order.fields)) NoSuchField
    (added_order (same_order_id order.fields d.meta.sort_orders) order.fields d) next told in
    added_cases P (same_order_id order.fields d.meta.sort_orders) order.fields d next refl step.1 there new

pub set_default_order_cases : (P : Draft → Type 0) (member : MemberId) (d next : Draft)
    → set_default_order member d ≡ Ok next
    → ((id : ℕ) → chosen member d.last_order (order_ids d.meta.sort_orders) ≡ Ok id → P (with_default_order id d)) → P next
unfolding set_default_order
set_default_order_cases P member d next told named =
    let step = goes_on (chosen member d.last_order (order_ids d.meta.sort_orders)) (λ id. Ok (with_default_order id d)) next told in
    let made : ◌≡◌ {A = Result Draft Why} (Ok (with_default_order step.0 d)) (Ok next) = step.2 in
    let same : with_default_order step.0 d ≡ next = cc in
    subst P same (named step.0 step.1)

-- where there is no order of id 0, its id is new
none_of : (id : ℕ) (orders : List SortOrder) → option_map (λ order. order.order_id) (find (λ order. order.order_id == id) orders) ≡ None
    → list_any (nat_eq id) (order_ids orders) ≡ false
none_of id [] none = refl
none_of id (order ∷ orders) none =
    first (order.order_id == id) refl (id == order.order_id) refl (λ told. none_of id orders told) none
  where
    first : (here : Bool) → (order.order_id == id) ≡ here → (there : Bool) → (id == order.order_id) ≡ there
        → (option_map (λ other. other.order_id) (find (λ other. other.order_id == id) orders) ≡ None
        → list_any (nat_eq id) (order_ids orders) ≡ false)
        → option_map (λ other. other.order_id) (cond here (Some order) (find (λ other. other.order_id == id) orders)) ≡ None
        → (there || list_any (nat_eq id) (order_ids orders)) ≡ false
    first true is there other later told = absurd (cc)
    first false is false other later told = later told
    first false is true other later told =
        let same : id ≡ order.order_id = eqb-true id order.order_id other in
        let clash : (id == id) ≡ false = subst (λ x. (x == id) ≡ false) (sym same) is in
        let own : (id == id) ≡ true = subst (λ x. (id == x) ≡ true) (sym same) other in
        absurd (cc)

new_is_new : (fields : List SortField) (orders : List SortOrder) → same_order_id fields orders ≡ None
    → list_any (nat_eq (new_order_id fields (order_ids orders))) (order_ids orders) ≡ false
new_is_new [] orders none = none_of 0 orders none
new_is_new (field ∷ fields) orders none =
    let sorted : is_unsorted (field ∷ fields) ≡ false = ne_eqb (length (field ∷ fields)) 0 (λ same. absurd (omega arith)) in
    rw sorted (next_is_new (order_ids orders))

pub orders_noted : (orders : List SortOrder) (now : ℕ) (last : Option ℕ) (id : ℕ)
    → OrdersAre orders now last → Contains (order_ids orders) id → OrdersAre orders now (Some id)
orders_noted orders now last id are there = members_noted IsSortOrder (λ order. order.order_id) orders now last id are there

pub orders_pushed : (orders : List SortOrder) (now : ℕ) (last : Option ℕ) (id : ℕ) (fields : List SortField)
    → OrdersAre orders now last → All IsSortField fields → same_order_id fields orders ≡ None
    → new_order_id fields (order_ids orders) ≡ id → IsId id
    → OrdersAre (orders ++ record { order_id = id; fields = fields } ∷ []) now (Some id)
orders_pushed orders now last id fields are forms none is within =
    members_pushed IsSortOrder (λ order. order.order_id) orders now last (record { order_id = id; fields = fields }) are
    (record { id = within; fields = forms })
    (subst (λ x. list_any (nat_eq x) (order_ids orders) ≡ false) is (new_is_new fields orders none))

pub orders_named : (member : MemberId) (orders : List SortOrder) (now : ℕ) (last : Option ℕ) (id : ℕ)
    → OrdersAre orders now last → chosen member last (order_ids orders) ≡ Ok id → OrdersAre orders id last
orders_named member orders now last id are named =
    members_named IsSortOrder (λ order. order.order_id) orders now last id are (named_there member last (order_ids orders) id are.added named)
