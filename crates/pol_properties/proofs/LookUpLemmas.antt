-- Look-ups in maps from texts to texts, and what they tell of the maps.
use Rattle.std.proofs.Common.{◌≡◌, ℕ, Bool, true, false, not, cond, List, [], ◌∷◌, filter, Option, Some, None, refl, sym, ap, ◌∙◌, inl, inr, true≢false}
use Rattle.std.specs.Cmp.{tied_back, tied_itself}
use Rattle.std.specs.Cmp.Lexicographic.{slice_cmp, nat_list_cmp_total, nat_list_eq_equiv}
use Rattle.std.specs.List.{AllByRecursion, find, fold}
use Rattle.std.specs.List.Sorted.{IsStrictlySortedBy}
use Rattle.std.specs.Option.{option_map, option_or}
use Rattle.std.specs.Ordering.{nat_cmp, is_gt, is_lt, is_eq, ordering_reverse}
use Rattle.std.specs.Str.{bytes_eq}
use Rattle.std.specs.declared.cmp.Ordering.{Ordering}
use Rattle.std.specs.declared.cmp.Ordering.TheVariants.{Less, Equal, Greater}
use Rattle.std.proofs.lemmas.Bool.{cases_Bool}
use Rattle.std.proofs.lemmas.List.Folds.{find-append}
use Rattle.std.proofs.lemmas.Map.Text.{is_eq-slice_cmp}
use Rattle.std.proofs.lemmas.Slice.Eq.{bytes_eq-Decides}
use Rattle.pol_properties.specs.Laws.{EqualLookUpsAreEqualMaps, OtherKeysStayWithout, RemovedKeyIsGone, ValuesAreUpdated}
use Rattle.pol_properties.specs.Properties.{compared, has_key, is_among, KeysAscend, value_of, with_value, without_key}
use Rattle.pol_properties.specs.declared.property.Property.{Property}
use Rattle.pol_properties.proofs.CutLemmas.{by_keys, find_told}

or_none : {X : Type 0} (found : Option X) → option_or found None ≡ found
or_none None = refl
or_none (Some x) = refl

-- a look-up in a filter that keeps, or drops, all that the look-up may find
module _ {X : Type 0} (test keep : X → Bool) where
  found_first : (b k : Bool) (x : X) (xs : List X) → test x ≡ true → keep x ≡ k → k ≡ b → find test (filter keep xs) ≡ cond b (find test xs) None → find test (filter keep (x ∷ xs)) ≡ cond b (find test (x ∷ xs)) None
  found_first true true x xs found kept is rest = rw (kept, found) refl
  found_first false false x xs found kept is rest = rw kept rest
  found_first true false x xs found kept is rest = absurd (true≢false (sym is))
  found_first false true x xs found kept is rest = absurd (true≢false is)

  passed_first : (b k : Bool) (x : X) (xs : List X) → test x ≡ false → keep x ≡ k → find test (filter keep xs) ≡ cond b (find test xs) None → find test (filter keep (x ∷ xs)) ≡ cond b (find test (x ∷ xs)) None
  passed_first b true x xs passed kept rest = rw (kept, passed) rest
  passed_first b false x xs passed kept rest = rw (kept, passed) rest

  find-filter : (b : Bool) → ((x : X) → test x ≡ true → keep x ≡ b) → (xs : List X) → find test (filter keep xs) ≡ cond b (find test xs) None
  find-filter true so [] = refl
  find-filter false so [] = refl
  find-filter b so (x ∷ xs) = elim (cases_Bool (test x)) [
    | inl found ↦ found_first b (keep x) x xs found refl (so x found) (find-filter b so xs)
    | inr passed ↦ passed_first b (keep x) x xs passed refl (find-filter b so xs)
  ]

same_key : (key : List ℕ) (pair : Property) → has_key key pair ≡ true → pair.key ≡ key
same_key key pair has = (bytes_eq-Decides pair.key key).0 has

own_key : (pair : Property) → has_key pair.key pair ≡ true
own_key pair = (bytes_eq-Decides pair.key pair.key).1 refl

abbrev value_in : Option Property → Option (List ℕ)
value_in found = option_map (λ pair. pair.value) found

module _ (pair : Property) (pairs : List Property) where
  abbrev below : Property → Bool
  below kept = is_lt (compared pair.key kept)

  abbrev above : Property → Bool
  above kept = is_gt (compared pair.key kept)

  own_compared : (kept : Property) → has_key pair.key kept ≡ true → compared pair.key kept ≡ Equal
  own_compared kept has = ap (λ key. slice_cmp nat_cmp key pair.key) (same_key pair.key kept has) ∙ tied_itself nat_list_cmp_total pair.key

  pub value_is_set : value_of pair.key (with_value pair pairs) ≡ Some pair.value
  unfolding with_value
  value_is_set =
      ap value_in (find-append (has_key pair.key) (filter below pairs) (pair ∷ filter above pairs)
      ∙ (λ i. option_or (find-filter (has_key pair.key) below false (λ kept has. ap is_lt (own_compared kept has)) pairs i) (cond (own_key pair i) (Some pair) (find (has_key pair.key) (filter above pairs)))))

  -- where a key is lower than the pair's, all that a look-up may find stands before it, and else after it
  module _ (key : List ℕ) (differs : bytes_eq pair.key key ≡ false) where
    beside : (o : Ordering) → slice_cmp nat_cmp key pair.key ≡ o → option_or (cond (is_lt o) (find (has_key key) pairs) None) (cond (is_gt o) (find (has_key key) pairs) None) ≡ find (has_key key) pairs
    beside Less is = or_none (find (has_key key) pairs)
    beside Equal is = absurd (true≢false (sym (ap is_eq (tied_back nat_list_cmp_total key pair.key is)) ∙ is_eq-slice_cmp pair.key key ∙ differs))
    beside Greater is = refl

    compared_alike : (test : Ordering → Bool) (kept : Property) → has_key key kept ≡ true → test (compared pair.key kept) ≡ test (slice_cmp nat_cmp key pair.key)
    compared_alike test kept has = ap (λ k. test (slice_cmp nat_cmp k pair.key)) (same_key key kept has)

    pub other_keys_stay : value_of key (with_value pair pairs) ≡ value_of key pairs
    unfolding with_value
    other_keys_stay =
        ap value_in (find-append (has_key key) (filter below pairs) (pair ∷ filter above pairs)
        ∙ (λ i. option_or (find-filter (has_key key) below (is_lt (slice_cmp nat_cmp key pair.key)) (compared_alike is_lt) pairs i) (cond (differs i) (Some pair) (find-filter (has_key key) above (is_gt (slice_cmp nat_cmp key pair.key)) (compared_alike is_gt) pairs i)))
        ∙ beside (slice_cmp nat_cmp key pair.key) refl)

pub removed_key_is_gone : RemovedKeyIsGone
unfolding without_key
removed_key_is_gone key pairs =
    ap value_in (find-filter (has_key key) (λ kept. not (has_key key kept)) false (λ kept has. ap not has) pairs)

pub other_keys_stay_without : OtherKeysStayWithout
unfolding without_key
other_keys_stay_without key gone pairs differs =
    ap value_in (find-filter (has_key key) (λ kept. not (has_key gone kept)) true (λ kept has. ap not (other kept has)) pairs)
  where
    other : (kept : Property) → has_key key kept ≡ true → has_key gone kept ≡ false
    other kept has = ap (λ k. bytes_eq k gone) (same_key key kept has) ∙ nat_list_eq_equiv.symm key gone ∙ differs

-- a key below all others has no value
absent_below : (key : List ℕ) (pairs : List Property) → AllByRecursion (λ pair. slice_cmp nat_cmp key pair.key ≡ Less) pairs → value_of key pairs ≡ None
absent_below key pairs below =
    ap value_in (find_told (has_key key) (λ pair. slice_cmp nat_cmp key pair.key) Less (λ pair is. nat_list_eq_equiv.symm pair.key key ∙ sym (is_eq-slice_cmp key pair.key) ∙ ap is_eq is) pairs below)

first_value : (pair : Property) (pairs : List Property) → value_of pair.key (pair ∷ pairs) ≡ Some pair.value
first_value pair pairs = rw (own_key pair) refl

below_all : (key : List ℕ) (pair : Property) (pairs : List Property) → slice_cmp nat_cmp key pair.key ≡ Less → AllByRecursion (λ later. by_keys pair later ≡ Less) pairs → AllByRecursion (λ later. slice_cmp nat_cmp key later.key ≡ Less) pairs
below_all key pair [] below all = tt
below_all key pair (later ∷ pairs) below all =
    (nat_list_cmp_total.trans key pair.key later.key below all.0, below_all key pair pairs below all.1)

passed_value : (key : List ℕ) (pair : Property) (pairs : List Property) → has_key key pair ≡ false → value_of key (pair ∷ pairs) ≡ value_of key pairs
passed_value key pair pairs other = rw other refl

-- two maps that begin with one pair and tell of each key alike
module _ (x y : Property) (xs ys : List Property) (same : x.key ≡ y.key) (left : AllByRecursion (λ later. by_keys x later ≡ Less) xs) (right : AllByRecursion (λ later. by_keys y later ≡ Less) ys) (alike : (key : List ℕ) → value_of key (x ∷ xs) ≡ value_of key (y ∷ ys)) where
  firsts_alike : x ≡ y
  firsts_alike =
      let values : Some x.value ≡ Some y.value = sym (first_value x xs) ∙ ap (λ key. value_of key (x ∷ xs)) same ∙ alike y.key ∙ first_value y ys in
      let value : x.value ≡ y.value = cc in
      λ i. record { key = same i; value = value i }

  rests_alike : (key : List ℕ) → value_of key xs ≡ value_of key ys
  rests_alike key = elim (cases_Bool (has_key key x)) [
    | inl has ↦
        let is = sym (same_key key x has) in
        ap (λ k. value_of k xs) is ∙ absent_below x.key xs left ∙ sym (absent_below y.key ys right) ∙ ap (λ k. value_of k ys) (sym (is ∙ same))
    | inr other ↦
        sym (passed_value key x xs other) ∙ alike key ∙ passed_value key y ys (ap (λ k. bytes_eq k key) (sym same) ∙ other)
  ]

pub equal_look_ups_are_equal_maps : EqualLookUpsAreEqualMaps
unfolding IsStrictlySortedBy
equal_look_ups_are_equal_maps [] [] left right alike = refl
equal_look_ups_are_equal_maps [] (y ∷ ys) left right alike =
    let contrary : None ≡ Some y.value = alike y.key ∙ first_value y ys in cc
equal_look_ups_are_equal_maps (x ∷ xs) [] left right alike =
    let contrary : None ≡ Some x.value = sym (alike x.key) ∙ first_value x xs in cc
equal_look_ups_are_equal_maps (x ∷ xs) (y ∷ ys) left right alike =
    by (slice_cmp nat_cmp x.key y.key) refl (λ same. equal_look_ups_are_equal_maps xs ys left.1 right.1 (rests_alike x y xs ys same left.0 right.0 alike))
  where
    by : (o : Ordering) → slice_cmp nat_cmp x.key y.key ≡ o → (x.key ≡ y.key → xs ≡ ys) → x ∷ xs ≡ y ∷ ys
    by Less is rest =
        let contrary : None ≡ Some x.value = sym (absent_below x.key (y ∷ ys) (is, below_all x.key y ys is right.0)) ∙ sym (alike x.key) ∙ first_value x xs in cc
    by Equal is rest =
        let same = same_key y.key x (sym (is_eq-slice_cmp x.key y.key) ∙ ap is_eq is) in
        λ i. firsts_alike x y xs ys same left.0 right.0 alike i ∷ rest same i
    by Greater is rest =
        let back = nat_list_cmp_total.antisymm y.key x.key ∙ ap ordering_reverse is in
        let contrary : None ≡ Some y.value = sym (absent_below y.key (x ∷ xs) (back, below_all y.key x xs back left.0)) ∙ alike y.key ∙ first_value y ys in cc

-- the values of each key once pairs are put in turn, where no two of these have one key
values_are_put : (key : List ℕ) (updates pairs : List Property) → KeysAscend updates → value_of key (fold (λ made pair. with_value pair made) pairs updates) ≡ option_or (value_of key updates) (value_of key pairs)
unfolding IsStrictlySortedBy
values_are_put key [] pairs ascend = refl
values_are_put key (update ∷ updates) pairs ascend = elim (cases_Bool (has_key key update)) [
  | inl has ↦
      let is = same_key key update has in
      let last : value_of key updates ≡ None = ap (λ k. value_of k updates) (sym is) ∙ absent_below update.key updates ascend.0 in
      let put : value_of key (with_value update pairs) ≡ Some update.value = ap (λ k. value_of k (with_value update pairs)) (sym is) ∙ value_is_set update pairs in
      let first : value_of key (update ∷ updates) ≡ Some update.value = rw has refl in
      values_are_put key updates (with_value update pairs) ascend.1
      ∙ (λ i. option_or (last i) (put i))
      ∙ sym (ap (λ found. option_or found (value_of key pairs)) first)
  | inr other ↦
      values_are_put key updates (with_value update pairs) ascend.1
      ∙ ap (option_or (value_of key updates)) (other_keys_stay update pairs key other)
      ∙ sym (ap (λ found. option_or found (value_of key pairs)) (passed_value key update updates other))
]

values_without : (key : List ℕ) (removals : List (List ℕ)) (pairs : List Property) → value_of key (filter (λ pair. not (is_among removals pair.key)) pairs) ≡ cond (is_among removals key) None (value_of key pairs)
values_without key removals pairs =
    ap value_in (find-filter (has_key key) (λ pair. not (is_among removals pair.key)) (not (is_among removals key)) (λ pair has. ap (λ k. not (is_among removals k)) (same_key key pair has)) pairs)
    ∙ elim (is_among removals key) as (λ b. value_in (cond (not b) (find (has_key key) pairs) None) ≡ cond b None (value_of key pairs)) [ true ↦ refl | false ↦ refl ]

pub values_are_updated : ValuesAreUpdated
values_are_updated key removals updates pairs ascend =
    values_are_put key updates (filter (λ pair. not (is_among removals pair.key)) pairs) ascend
    ∙ ap (option_or (value_of key updates)) (values_without key removals pairs)
