-- References in order of their names: one that is set, and which one a name finds.
use Rattle.std.proofs.Common.{◌≡◌, ◌∙◌, ℕ, Bool, true, false, List, [], ◌∷◌, ◌++◌, filter, cond, Option, None, Some, refl, sym, ap, subst}
use Rattle.std.specs.Cmp.Lexicographic.{slice_cmp}
use Rattle.std.specs.List.{All, find}
use Rattle.std.specs.List.Sorted.{IsStrictlySortedBy}
use Rattle.std.specs.Option.{option_map, option_or}
use Rattle.std.specs.Ordering.{is_eq, is_gt, is_lt, nat_cmp, ordering_reverse}
use Rattle.std.specs.Str.{bytes_eq}
use Rattle.std.specs.declared.cmp.Ordering.{Ordering}
use Rattle.std.specs.declared.cmp.Ordering.TheVariants.{Less, Equal, Greater}
use Rattle.std.proofs.lemmas.Cmp.{nat_list_cmp_total, nat_list_eq_equiv}
use Rattle.std.proofs.lemmas.List.Elements.{All-append, All-cons, All-from_recursion, All-head, All-tail, All-weaker, filter_passes, recursion_from_All}
use Rattle.std.proofs.lemmas.List.Folds.{find-append}
use Rattle.std.proofs.lemmas.List.Kept.{IsStrictlySortedBy-filter}
use Rattle.std.proofs.lemmas.Map.Lookups.{exact_bytes}
use Rattle.std.proofs.lemmas.Map.Text.{is_eq-slice_cmp}
use Rattle.pol_meta.specs.Valid.{snapshot_named}
use Rattle.pol_meta.specs.declared.reference.NamedRef.{NamedRef}
use Rattle.pol_meta.specs.declared.reference.SnapshotRef.{SnapshotRef}
use Rattle.pol_updates.specs.Snapshots.{compared, with_ref}

-- what a test finds among those that a filter keeps
pub find_kept : {A : Type 0} (test keep : A → Bool) (xs : List A) → ((x : A) → test x ≡ true → keep x ≡ true)
    → find test (filter keep xs) ≡ find test xs
find_kept test keep [] all = refl
find_kept test keep (x ∷ xs) all = first (keep x) refl (test x) refl (find_kept test keep xs all)
  where
    first : (kept : Bool) → keep x ≡ kept → (here : Bool) → test x ≡ here
        → find test (filter keep xs) ≡ find test xs
        → find test (cond kept (x ∷ filter keep xs) (filter keep xs)) ≡ cond here (Some x) (find test xs)
    first true keeps true is later = rw is
    first true keeps false is later = rw is later
    first false keeps true is later = let clash : keep x ≡ true = all x is in absurd (cc)
    first false keeps false is later = later

pub find_none : {A : Type 0} (test keep : A → Bool) (xs : List A) → ((x : A) → test x ≡ true → keep x ≡ false)
    → find test (filter keep xs) ≡ None
find_none test keep [] none = refl
find_none test keep (x ∷ xs) none = first (keep x) refl (test x) refl (find_none test keep xs none)
  where
    first : (kept : Bool) → keep x ≡ kept → (here : Bool) → test x ≡ here
        → find test (filter keep xs) ≡ None → find test (cond kept (x ∷ filter keep xs) (filter keep xs)) ≡ None
    first true keeps true is later = let clash : keep x ≡ false = none x is in absurd (cc)
    first true keeps false is later = rw is later
    first false keeps here is later = later

or_none : {A : Type 0} (found : Option A) → option_or found None ≡ found
or_none None = refl
or_none (Some x) = refl

-- bytes that are equal, and how they compare
pub same_name : (left right : List ℕ) → bytes_eq left right ≡ true → left ≡ right
same_name left right is = exact_bytes left right (both_equal (slice_cmp nat_cmp left right) (is_eq-slice_cmp left right ∙ is))
  where
    both_equal : (order : Ordering) → is_eq order ≡ true → order ≡ Equal
    both_equal Less is = absurd (cc)
    both_equal Equal is = refl
    both_equal Greater is = absurd (cc)

itself : (name : List ℕ) → bytes_eq name name ≡ true
itself name = nat_list_eq_equiv.refl name

own_order : (name : List ℕ) → slice_cmp nat_cmp name name ≡ Equal
own_order name = equal (slice_cmp nat_cmp name name) (is_eq-slice_cmp name name ∙ itself name)
  where
    equal : (order : Ordering) → is_eq order ≡ true → order ≡ Equal
    equal Less is = absurd (cc)
    equal Equal is = refl
    equal Greater is = absurd (cc)

-- a name that is set finds what it is set to
pub finds_set : (name : List ℕ) (reference : SnapshotRef) (refs : List NamedRef)
    → snapshot_named name (with_ref name reference refs) ≡ Some reference.snapshot_id
finds_set name reference refs =
    let test : NamedRef → Bool = λ named. bytes_eq named.name name in
    let lower : NamedRef → Bool = λ named. is_lt (compared name named) in
    let higher : NamedRef → Bool = λ named. is_gt (compared name named) in
    let below : find test (filter lower refs) ≡ None = find_none test lower refs (λ named is.
    let same : named.name ≡ name = same_name named.name name is in
    let equal : compared name named ≡ Equal = subst (λ n. slice_cmp nat_cmp n name ≡ Equal) (sym same) (own_order name) in
    rw equal) in
    rw (find-append test (filter lower refs) (record { name = name; reference = reference } ∷ filter higher refs), below, itself name)

-- another name finds what it did
pub finds_other : (other name : List ℕ) (reference : SnapshotRef) (refs : List NamedRef) → bytes_eq name other ≡ false
    → snapshot_named other (with_ref name reference refs) ≡ snapshot_named other refs
finds_other other name reference refs differ =
    ap (option_map (λ named. named.reference.snapshot_id))
    (find-append test (filter lower refs) (set ∷ filter higher refs)
    ∙ rw differ (by_order (slice_cmp nat_cmp other name) refl))
  where
    test : NamedRef → Bool
    test named = bytes_eq named.name other

    lower : NamedRef → Bool
    lower named = is_lt (compared name named)

    higher : NamedRef → Bool
    higher named = is_gt (compared name named)

    set : NamedRef
    set = record { name = name; reference = reference }

    alike : (order : Ordering) → slice_cmp nat_cmp other name ≡ order → (named : NamedRef) → test named ≡ true
        → compared name named ≡ order
    alike order is named passes =
        subst (λ n. slice_cmp nat_cmp n name ≡ order) (sym (same_name named.name other passes)) is

    by_order : (order : Ordering) → slice_cmp nat_cmp other name ≡ order
        → option_or (find test (filter lower refs)) (find test (filter higher refs)) ≡ find test refs
    by_order Less is =
        rw (
          find_kept test lower refs (λ named passes. rw (alike Less is named passes)),
          find_none test higher refs (λ named passes. rw (alike Less is named passes)),
        ) (or_none (find test refs))
    by_order Greater is =
        rw (
          find_none test lower refs (λ named passes. rw (alike Greater is named passes)),
          find_kept test higher refs (λ named passes. rw (alike Greater is named passes)),
        )
    by_order Equal is =
        let same : other ≡ name = exact_bytes other name is in
        let clash : bytes_eq name other ≡ true = subst (λ n. bytes_eq name n ≡ true) (sym same) (itself name) in
        absurd (cc)

-- names in order stay so
abbrev pub by_name : NamedRef → NamedRef → Ordering
by_name left right = slice_cmp nat_cmp left.name right.name

joined : (low : List NamedRef) (x : NamedRef) (high : List NamedRef) → IsStrictlySortedBy by_name low
    → IsStrictlySortedBy by_name (x ∷ high) → All (λ y. by_name y x ≡ Less) low → IsStrictlySortedBy by_name (low ++ x ∷ high)
unfolding IsStrictlySortedBy
joined [] x high low_sorted high_sorted below = high_sorted
joined (y ∷ ys) x high low_sorted high_sorted below =
    let here : by_name y x ≡ Less = All-head (λ z. by_name z x ≡ Less) y ys below in
    let beyond : All (λ z. by_name y z ≡ Less) high =
    All-weaker (λ z. by_name x z ≡ Less) (λ z. by_name y z ≡ Less)
    (λ z after. nat_list_cmp_total.trans y.name x.name z.name here after) high
    (All-from_recursion (λ z. by_name x z ≡ Less) high high_sorted.0) in (
      recursion_from_All (λ z. by_name y z ≡ Less) (ys ++ x ∷ high)
          (All-append (λ z. by_name y z ≡ Less) ys (x ∷ high) (All-from_recursion (λ z. by_name y z ≡ Less) ys low_sorted.0)
          (All-cons (λ z. by_name y z ≡ Less) x high here beyond)),
      joined ys x high low_sorted.1 high_sorted (All-tail (λ z. by_name z x ≡ Less) y ys below),
    )

is_less : (order : Ordering) → is_lt order ≡ true → order ≡ Less
is_less Less is = refl
is_less Equal is = absurd (cc)
is_less Greater is = absurd (cc)

is_greater : (order : Ordering) → is_gt order ≡ true → order ≡ Greater
is_greater Less is = absurd (cc)
is_greater Equal is = absurd (cc)
is_greater Greater is = refl

pub set_sorted : (name : List ℕ) (reference : SnapshotRef) (refs : List NamedRef) → IsStrictlySortedBy by_name refs
    → IsStrictlySortedBy by_name (with_ref name reference refs)
unfolding IsStrictlySortedBy
set_sorted name reference refs sorted =
    let set : NamedRef = record { name = name; reference = reference } in
    let low = filter (λ named. is_lt (compared name named)) refs in
    let high = filter (λ named. is_gt (compared name named)) refs in
    let below : All (λ named. by_name named set ≡ Less) low =
    All-weaker (λ named. is_lt (compared name named) ≡ true) (λ named. by_name named set ≡ Less)
    (λ named is. is_less (compared name named) is) low (filter_passes (λ named. is_lt (compared name named)) refs) in
    let above : All (λ named. by_name set named ≡ Less) high =
    All-weaker (λ named. is_gt (compared name named) ≡ true) (λ named. by_name set named ≡ Less)
    (λ named is. nat_list_cmp_total.antisymm name named.name ∙ ap ordering_reverse (is_greater (compared name named) is))
    high (filter_passes (λ named. is_gt (compared name named)) refs) in
    joined low set high (IsStrictlySortedBy-filter by_name (λ named. is_lt (compared name named)) refs sorted) (
      recursion_from_All (λ named. by_name set named ≡ Less) high above,
      IsStrictlySortedBy-filter by_name (λ named. is_gt (compared name named)) refs sorted,
    ) below
