-- A stable sort puts the items in rising order.
use Rattle.std.proofs.Common.{◌≡◌, zero, suc, ◌+◌, Bool, true, false, not, cond, ◌&&◌, List, [], ◌∷◌, map, filter, refl, sym, ap, ◌∙◌, inl, inr, slice_index_or, true≢false, arith}
use Rattle.std.specs.Borrow.{Bor}
use Rattle.std.specs.Cmp.{IsStrictWeakOrder, IsTotalOrder, on_total}
use Rattle.std.specs.Coded.{Coded}
use Rattle.std.specs.List.{AllByRecursion, IsDistinct}
use Rattle.std.specs.List.Sorted.{ties, IsPermutation, IsSorted, IsStable, IsStrictlySortedBy}
use Rattle.std.specs.Ordering.{is_lt, ordering_reverse}
use Rattle.std.specs.declared.cmp.Ordering.{Ordering}
use Rattle.std.specs.declared.cmp.Ordering.TheVariants.{Less, Equal, Greater}
use Rattle.std.proofs.lemmas.Bool.{cases_Bool}
use Rattle.std.proofs.lemmas.List.Elements.{recursion_from_All}
use Rattle.std.proofs.lemmas.List.Sorted.{ranks_by, sorted_far, IsPermutation-cons, IsPermutation-middle, IsPermutation-refl, IsPermutation-sym, IsPermutation-trans}
use Rattle.std.proofs.lemmas.Map.Keys.{IsDistinct-head, IsDistinct-tail, IsDistinct-IsPermutation}
use Rattle.pol_tables.specs.Laws.{ListsAreInOrder}
use Rattle.pol_tables.specs.Order.{in_order, placed}
use Rattle.pol_tables.specs.Same.{same}
use Rattle.pol_tables.proofs.ListLemmas.{each-join, each-weaken}
use Rattle.pol_tables.proofs.SameLemmas.{same-refl, same-symmetric}

-- an order of images orders what they are of
module _ {X Y : Type 0} (f : Y → X) (cmp : X → X → Ordering) where
  abbrev image_cmp : Y → Y → Ordering
  image_cmp left right = cmp (f left) (f right)

  map-placed : (item : Y) (items : List Y) → map f (placed image_cmp item items) ≡ placed cmp (f item) (map f items)
  unfolding placed
  map-placed item [] = refl
  map-placed item (next ∷ items) =
      let rest = map-placed item items in
      elim (is_lt (cmp (f next) (f item))) as (λ b. map f (cond b (next ∷ placed image_cmp item items) (item ∷ next ∷ items)) ≡ cond b (f next ∷ placed cmp (f item) (map f items)) (f item ∷ f next ∷ map f items)) [
        | true ↦ ap (λ others. f next ∷ others) rest
        | false ↦ refl
      ]

  map-in_order : (items : List Y) → map f (in_order image_cmp items) ≡ in_order cmp (map f items)
  unfolding in_order
  map-in_order [] = refl
  map-in_order (item ∷ items) = map-placed item (in_order image_cmp items) ∙ ap (placed cmp (f item)) (map-in_order items)

-- an item that moves past the next one
moved-past : {X : Type 0} (item next : X) (items moved : List X) → IsPermutation (item ∷ items) moved → IsPermutation (item ∷ next ∷ items) (next ∷ moved)
moved-past item next items moved rest =
    IsPermutation-trans (item ∷ next ∷ items) (next ∷ item ∷ items) (next ∷ moved) (IsPermutation-sym (next ∷ item ∷ items) (item ∷ next ∷ items) (IsPermutation-middle (next ∷ []) item items)) (IsPermutation-cons next (item ∷ items) moved rest)

module _ {X : Type 0} (cmp : X → X → Ordering) where
  abbrev less : X → X → Bool
  less left right = is_lt (cmp left right)

  moved-placed : (item : X) (items : List X) → IsPermutation (item ∷ items) (placed cmp item items)
  unfolding placed
  moved-placed item [] = IsPermutation-refl (item ∷ [])
  moved-placed item (next ∷ items) =
      let rest = moved-past item next items (placed cmp item items) (moved-placed item items) in
      elim (less next item) as (λ b. IsPermutation (item ∷ next ∷ items) (cond b (next ∷ placed cmp item items) (item ∷ next ∷ items))) [
        | true ↦ rest
        | false ↦ IsPermutation-refl (item ∷ next ∷ items)
      ]

  pub moved-in_order : (items : List X) → IsPermutation items (in_order cmp items)
  unfolding in_order
  moved-in_order [] = IsPermutation-refl []
  moved-in_order (item ∷ items) =
      IsPermutation-trans (item ∷ items) (item ∷ in_order cmp items) (placed cmp item (in_order cmp items)) (IsPermutation-cons item items (in_order cmp items) (moved-in_order items)) (moved-placed item (in_order cmp items))

  each-placed : (P : X → Type 0) (item : X) (items : List X) → P item → AllByRecursion P items → AllByRecursion P (placed cmp item items)
  unfolding placed
  each-placed P item [] here all = (here, tt)
  each-placed P item (next ∷ items) here all =
      let rest = each-placed P item items here all.1 in
      elim (less next item) as (λ b. AllByRecursion P (cond b (next ∷ placed cmp item items) (item ∷ next ∷ items))) [
        | true ↦ (all.0, rest)
        | false ↦ (here, all)
      ]

  -- no item of a list is less than one
  abbrev NoneLess : X → List X → Type 0
  NoneLess item items = AllByRecursion (λ later. less later item ≡ false) items

  abbrev Ordered : List X → Type 0
  Ordered [] = Unit {0}
  Ordered (item ∷ items) = NoneLess item items × Ordered items

  sorted-from : (items : List X) → Ordered items → IsSorted cmp items
  sorted-from [] ordered k d low within = absurd (omega (arith, within))
  sorted-from (item ∷ []) ordered k d low within = absurd (omega (arith, within))
  sorted-from (item ∷ next ∷ items) ordered zero d low within = ordered.0.0
  sorted-from (item ∷ next ∷ items) ordered (suc k) d low within =
      let further : suc k + 1 ≡ suc (k + 1) = omega arith in
      ap (λ place. less (slice_index_or (item ∷ next ∷ items) place d) (slice_index_or (next ∷ items) k d)) further ∙ sorted-from (next ∷ items) ordered.1 k d (omega arith) (omega (arith, within))

  module _ (total : IsTotalOrder cmp) where
    weak : IsStrictWeakOrder less
    weak = ranks_by total (λ item. item)

    -- a list in order by places is so item by item
    Ordered-from : (items : List X) → IsSorted cmp items → Ordered items
    Ordered-from [] sorted = tt
    Ordered-from (item ∷ items) sorted = (
      recursion_from_All (λ later. less later item ≡ false) items (λ k d within. sorted_far less weak (item ∷ items) sorted 0 (suc k) d (omega arith) (omega arith)),
      Ordered-from items (λ k d low within. sorted_far less weak (item ∷ items) sorted (suc k) (suc (k + 1)) d (omega arith) (omega arith)),
    )

    Ordered-placed : (item : X) (items : List X) → Ordered items → Ordered (placed cmp item items)
    unfolding placed
    Ordered-placed item [] ordered = (tt, tt)
    Ordered-placed item (next ∷ items) ordered =
        let rest = Ordered-placed item items ordered.1 in
        elim (cases_Bool (less next item)) [
          | inl before ↦ rw before (each-placed (λ later. less later next ≡ false) item items (weak.one_way next item before) ordered.0, rest)
          | inr over ↦
              rw over ((over, each-weaken (λ later. less later next ≡ false) (λ later. less later item ≡ false) items (λ later past. weak.chain later next item past over) ordered.0), ordered)
        ]

    Ordered-in_order : (items : List X) → Ordered (in_order cmp items)
    unfolding in_order
    Ordered-in_order [] = tt
    Ordered-in_order (item ∷ items) = Ordered-placed item (in_order cmp items) (Ordered-in_order items)

    -- where items that tie are equal, those of which no two are the same rise strictly
    module _ (code : Coded X) (tie : (left right : X) → cmp left right ≡ Equal → left ≡ right) where
      rises : (item later : X) → less later item ≡ false → same code item later ≡ false → cmp item later ≡ Less
      rises item later over apart = by (cmp later item) refl
        where
          by : (o : Ordering) → cmp later item ≡ o → cmp item later ≡ Less
          by Less is = absurd (true≢false (sym (ap is_lt is) ∙ over))
          by Equal is = absurd (true≢false (sym (same-refl code item) ∙ ap (same code item) (sym (tie later item is)) ∙ apart))
          by Greater is = total.antisymm item later ∙ ap ordering_reverse is

      rises-from : (items : List X) → Ordered items → IsDistinct (same code) items → IsStrictlySortedBy cmp items
      unfolding IsStrictlySortedBy
      rises-from [] ordered differ = tt
      rises-from (item ∷ items) ordered differ = (
        each-join (λ later. less later item ≡ false) (λ later. same code item later ≡ false) (λ later. cmp item later ≡ Less) items (λ later over apart. rises item later over apart) ordered.0 (IsDistinct-head (same code) item items differ),
        rises-from items ordered.1 (IsDistinct-tail (same code) item items differ),
      )

      pub rises-in_order : (items : List X) → IsDistinct (same code) items → IsStrictlySortedBy cmp (in_order cmp items)
      rises-in_order items differ =
          rises-from (in_order cmp items) (Ordered-in_order items) (IsDistinct-IsPermutation (same code) (same-symmetric code) items (in_order cmp items) (moved-in_order items) differ)

    -- neither of an item that ties with two is less
    tied : (item left right : X) → ties less item left ≡ true → ties less item right ≡ true → less left right ≡ false
    tied item left right one other = weak.chain left item right (second (less item left) (less left item) one) (first (less item right) (less right item) other)
      where
        first : (a b : Bool) → (not a && not b) ≡ true → a ≡ false
        first true b is = absurd (true≢false (sym is))
        first false b is = refl

        second : (a b : Bool) → (not a && not b) ≡ true → b ≡ false
        second true b is = absurd (true≢false (sym is))
        second false true is = absurd (true≢false (sym is))
        second false false is = refl

    swapped : (a b : Bool) (next item : X) (rest : List X) → (a ≡ true → b ≡ true → true ≡ false)
        → cond a (next ∷ cond b (item ∷ rest) rest) (cond b (item ∷ rest) rest) ≡ cond b (item ∷ cond a (next ∷ rest) rest) (cond a (next ∷ rest) rest)
    swapped true true next item rest never = absurd (true≢false (never refl refl))
    swapped true false next item rest never = refl
    swapped false true next item rest never = refl
    swapped false false next item rest never = refl

    filter-placed : (each item : X) (items : List X) → filter (ties less each) (placed cmp item items) ≡ filter (ties less each) (item ∷ items)
    unfolding placed
    filter-placed each item [] = refl
    filter-placed each item (next ∷ items) =
        let rest = filter-placed each item items in
        elim (cases_Bool (less next item)) [
          | inl before ↦
              ap (λ b. filter (ties less each) (cond b (next ∷ placed cmp item items) (item ∷ next ∷ items))) before
              ∙ (ap (λ others. cond (ties less each next) (next ∷ others) others) rest
              ∙ swapped (ties less each next) (ties less each item) next item (filter (ties less each) items) (λ one other. sym before ∙ tied each next item one other))
          | inr over ↦
              ap (λ b. filter (ties less each) (cond b (next ∷ placed cmp item items) (item ∷ next ∷ items))) over
        ]

    stable-in_order : (items : List X) → IsStable cmp items (in_order cmp items)
    unfolding in_order
    stable-in_order [] each = refl
    stable-in_order (item ∷ items) each =
        filter-placed each item (in_order cmp items) ∙ ap (λ others. cond (ties less each item) (item ∷ others) others) (stable-in_order items each)

    irreflexive : (item : X) → less item item ≡ false
    irreflexive item = elim (cases_Bool (less item item)) [ inl so ↦ weak.one_way item item so | inr apart ↦ apart ]

    -- an item that is less than the first of a list in order ties with none of it
    ties-less : (item first other : X) → less item first ≡ true → less other first ≡ false → ties less item other ≡ false
    ties-less item first other before over = elim (cases_Bool (less item other)) [
      | inl so ↦ ap (λ b. not b && not (less other item)) so
      | inr apart ↦ absurd (true≢false (sym before ∙ weak.chain item other first apart over))
    ]

    filter-less : (item first : X) (items : List X) → less item first ≡ true → NoneLess first items → filter (ties less item) items ≡ []
    filter-less item first [] before none = refl
    filter-less item first (next ∷ items) before none =
        ap (λ b. cond b (next ∷ filter (ties less item) items) (filter (ties less item) items)) (ties-less item first next before none.0) ∙ filter-less item first items before none.1

    filter-itself : (item : X) (items : List X) → filter (ties less item) (item ∷ items) ≡ item ∷ filter (ties less item) items
    filter-itself item items =
        ap (λ b. cond (not b && not b) (item ∷ filter (ties less item) items) (filter (ties less item) items)) (irreflexive item)

    abbrev head_or : X → List X → X
    head_or other [] = other
    head_or other (item ∷ items) = item

    abbrev tail_of : List X → List X
    tail_of [] = []
    tail_of (item ∷ items) = items

    abbrev is_filled : List X → Bool
    is_filled [] = false
    is_filled (item ∷ items) = true

    -- the first of a list in order isn't less than that of another one where the same items tie in both
    not_before : (item other : X) (left right : List X) → Ordered (other ∷ right) → filter (ties less item) (item ∷ left) ≡ filter (ties less item) (other ∷ right) → less item other ≡ false
    not_before item other left right second alike = elim (cases_Bool (less item other)) [
      | inl before ↦
          absurd (true≢false (ap is_filled (sym (filter-itself item left) ∙ alike ∙ filter-less item other (other ∷ right) before (irreflexive other, second.0))))
      | inr over ↦ over
    ]

    same_rest : (a b : Bool) (item other : X) (left right : List X) → a ≡ b → cond a (item ∷ left) left ≡ cond b (other ∷ right) right → left ≡ right
    same_rest true true item other left right is alike = ap tail_of alike
    same_rest true false item other left right is alike = absurd (true≢false is)
    same_rest false true item other left right is alike = absurd (true≢false (sym is))
    same_rest false false item other left right is alike = alike

    same_order : (left right : List X) → Ordered left → Ordered right → ((each : X) → filter (ties less each) left ≡ filter (ties less each) right) → left ≡ right
    same_order [] [] first second alike = refl
    same_order [] (item ∷ right) first second alike = absurd (true≢false (sym (ap is_filled (alike item ∙ filter-itself item right))))
    same_order (item ∷ left) [] first second alike = absurd (true≢false (ap is_filled (sym (filter-itself item left) ∙ alike item)))
    same_order (item ∷ left) (other ∷ right) first second alike =
        let over = not_before item other left right second (alike item) in
        let under = not_before other item right left first (sym (alike other)) in
        let tie : ties less item other ≡ true = (λ i. not (over i) && not (under i)) in
        let is : item ≡ other =
        ap (head_or item) (sym (filter-itself item left) ∙ alike item ∙ ap (λ b. cond b (other ∷ filter (ties less item) right) (filter (ties less item) right)) tie)
        in
        let rest = same_order left right first.1 second.1 (λ each. same_rest (ties less each item) (ties less each other) item other (filter (ties less each) left) (filter (ties less each) right) (ap (ties less each) is) (alike each)) in
        λ i. is i ∷ rest i

    -- a list in order in which items that tie stand as in another is the other in order
    pub sorted-in_order : (items sorted : List X) → IsSorted cmp sorted → IsStable cmp items sorted → sorted ≡ in_order cmp items
    sorted-in_order items sorted is_sorted stable =
        same_order sorted (in_order cmp items) (Ordered-from sorted is_sorted) (Ordered-in_order items) (λ each. stable each ∙ sym (stable-in_order items each))

-- the same of items that are lent
module _ {X : Type 0} (cmp : X → X → Ordering) (total : IsTotalOrder cmp) where
  abbrev lent_cmp : Bor X → Bor X → Ordering
  lent_cmp = image_cmp (λ item. item.now) cmp

  pub lent-in_order : (items sorted : List (Bor X)) → IsSorted lent_cmp sorted → IsStable lent_cmp items sorted → map (λ item. item.now) sorted ≡ in_order cmp (map (λ item. item.now) items)
  lent-in_order items sorted is_sorted stable =
      ap (map (λ item. item.now)) (sorted-in_order lent_cmp (on_total (λ item. item.now) total) items sorted is_sorted stable) ∙ map-in_order (λ item. item.now) cmp items

pub lists_in_order : {X : Type 0} → ListsAreInOrder X
lists_in_order cmp total items =
    (moved-in_order cmp items, sorted-from cmp (in_order cmp items) (Ordered-in_order cmp total items), stable-in_order cmp total items)
