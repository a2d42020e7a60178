-- A list of pairs cut where a search ends, and the pairs once one is put there or taken away.
use Rattle.std.proofs.Common.{◌≡◌, ℕ, zero, suc, ◌+◌, ◌<◌, ◌≤◌, Bool, true, false, not, cond, List, [], ◌∷◌, ◌++◌, length, take, drop, filter, get_or, set, Some, None, Result, Ok, Err, IfOk, IfErr, refl, sym, ap, subst, ◌∙◌, arith}
use Rattle.std.specs.Cmp.{IsTotalOrder, on_total}
use Rattle.std.specs.Cmp.Lexicographic.{slice_cmp, nat_list_cmp_total}
use Rattle.std.specs.List.{AllByRecursion, AllWithin, HoldsAt, find, insert, remove}
use Rattle.std.specs.List.Sorted.{IsBinarySearchResult, IsNonDecreasingBy, IsPartitionPoint, IsSearchInRange, IsStrictlySortedBy}
use Rattle.std.specs.Option.{option_map, option_or}
use Rattle.std.specs.Ordering.{nat_cmp, is_gt, is_lt, is_eq, ordering_index, ordering_reverse}
use Rattle.std.specs.declared.cmp.Ordering.{Ordering}
use Rattle.std.specs.declared.cmp.Ordering.TheVariants.{Less, Equal, Greater}
use Rattle.std.proofs.lemmas.Cmp.{alike_right}
use Rattle.std.proofs.lemmas.List.Elements.{filter-append}
use Rattle.std.proofs.lemmas.List.Folds.{find-append}
use Rattle.std.proofs.lemmas.List.{append-nil, take-append-drop}
use Rattle.std.proofs.lemmas.List.Sorted.{searchable_from_sorted}
use Rattle.std.proofs.lemmas.List.Kept.{IsStrictlySortedBy-filter}
use Rattle.std.proofs.lemmas.Map.Keys.{Less-from_sorted}
use Rattle.std.proofs.lemmas.Map.Text.{is_eq-slice_cmp}
use Rattle.pol_properties.specs.Properties.{compared, has_key, KeysAscend, value_of, with_value, without_key, IsAt, IsGap}
use Rattle.pol_properties.specs.declared.property.Property.{Property}

-- what holds of each place of a list holds of each item
module _ {X : Type 0} (P : X → Type 0) where
  pub take_each : (xs : List X) (i : ℕ) → AllWithin P xs 0 i → AllByRecursion P (take i xs)
  take_each xs zero all = tt
  take_each [] (suc i) all = tt
  take_each (x ∷ xs) (suc i) all =
      (all 0 x (omega arith) (omega arith), take_each xs i (λ k d from upto. all (suc k) d (omega arith) (omega arith)))

  pub drop_each : (xs : List X) (i : ℕ) → AllWithin P xs i (length xs) → AllByRecursion P (drop i xs)
  drop_each [] zero all = tt
  drop_each (x ∷ xs) zero all =
      (all 0 x (omega arith) (omega arith), drop_each xs zero (λ k d from upto. all (suc k) d (omega arith) (omega arith)))
  drop_each [] (suc i) all = tt
  drop_each (x ∷ xs) (suc i) all = drop_each xs i (λ k d from upto. all (suc k) d (omega arith) (omega arith))

-- a filter of items that are told alike
module _ {X : Type 0} (test : X → Bool) (tell : X → Ordering) where
  pub filter_told : (o : Ordering) (b : Bool) → ((x : X) → tell x ≡ o → test x ≡ b) → (xs : List X) → AllByRecursion (λ x. tell x ≡ o) xs → filter test xs ≡ cond b xs []
  filter_told o true so [] all = refl
  filter_told o true so (x ∷ xs) all = rw (so x all.0) (ap (λ kept. x ∷ kept) (filter_told o true so xs all.1))
  filter_told o false so [] all = refl
  filter_told o false so (x ∷ xs) all = rw (so x all.0) (filter_told o false so xs all.1)

  pub find_told : (o : Ordering) → ((x : X) → tell x ≡ o → test x ≡ false) → (xs : List X) → AllByRecursion (λ x. tell x ≡ o) xs → find test xs ≡ None
  find_told o so [] all = refl
  find_told o so (x ∷ xs) all = rw (so x all.0) (find_told o so xs all.1)

-- the order of pairs by their keys
abbrev pub by_keys : Property → Property → Ordering
by_keys left right = slice_cmp nat_cmp left.key right.key

pub by_keys_total : IsTotalOrder by_keys
by_keys_total = on_total (λ pair. pair.key) nat_list_cmp_total

pub has_key-compared : (key : List ℕ) (pair : Property) → has_key key pair ≡ is_eq (compared key pair)
has_key-compared key pair = sym (is_eq-slice_cmp pair.key key)

pub has_key-told : (key : List ℕ) (o : Ordering) (pair : Property) → compared key pair ≡ o → has_key key pair ≡ is_eq o
has_key-told key o pair is = has_key-compared key pair ∙ ap is_eq is

-- what follows from how a pair compares with another, turned round
turned : (left right : Property) (o : Ordering) → by_keys left right ≡ o → by_keys right left ≡ ordering_reverse o
turned left right o is = by_keys_total.antisymm right left ∙ ap ordering_reverse is

module _ (key : List ℕ) (pairs : List Property) (ascend : KeysAscend pairs) where
  -- comparisons with a key do not fall along ascending pairs
  ranks_rise : IsNonDecreasingBy (λ pair. ordering_index (compared key pair)) pairs
  ranks_rise = searchable_from_sorted nat_list_cmp_total (λ pair. pair.key) pairs key (λ k d from next.
      ap is_lt (turned (get_or pairs k d) (get_or pairs (k + 1) d) Less (Less-from_sorted by_keys pairs k (k + 1) d ascend (omega arith) next)))

  -- a comparison with the key is one with a pair that has it
  alike_key : (place : ℕ) (d : Property) → HoldsAt (λ pair. compared key pair ≡ Equal) pairs place → (pair : Property) → compared key pair ≡ by_keys pair (get_or pairs place d)
  alike_key place d here pair = sym (alike_right nat_list_cmp_total (get_or pairs place d).key key pair.key (here d))

  -- the place at which a search finds the key
  pub IsAt-found : (place : ℕ) → place < length pairs → HoldsAt (λ pair. compared key pair ≡ Equal) pairs place → IsAt key pairs place
  IsAt-found place within here = record {
    within = within;
    here = here;
    around = record {
      lower = take_each (λ pair. compared key pair ≡ Less) pairs place (λ k d from upto.
          alike_key place d here (get_or pairs k d) ∙ Less-from_sorted by_keys pairs k place d ascend upto within);
      higher = drop_each (λ pair. compared key pair ≡ Greater) pairs (suc place) (λ k d from upto.
          alike_key place d here (get_or pairs k d) ∙ turned (get_or pairs place d) (get_or pairs k d) Less (Less-from_sorted by_keys pairs place k d ascend (omega arith) upto));
    };
  }

  -- the place at which a search misses it
  pub IsGap-missed : (place : ℕ) → place ≤ length pairs → (IsNonDecreasingBy (λ pair. ordering_index (compared key pair)) pairs → IsPartitionPoint (λ pair. compared key pair ≡ Less) (λ pair. compared key pair ≡ Greater) pairs place) → IsGap key pairs place
  IsGap-missed place within parted = record {
    within = within;
    around = record {
      lower = take_each (λ pair. compared key pair ≡ Less) pairs place (parted ranks_rise).0;
      higher = drop_each (λ pair. compared key pair ≡ Greater) pairs place (parted ranks_rise).1;
    };
  }

  pub searched : (result : Result ℕ ℕ) → IsSearchInRange result (length pairs) → IsBinarySearchResult (compared key) pairs result → record { found : IfOk result (IsAt key pairs); absent : IfErr result (IsGap key pairs) }
  searched (Ok place) bound position = record { found = IsAt-found place bound position; absent = tt }
  searched (Err place) bound position = record { found = tt; absent = IsGap-missed place bound position }

-- pairs of lower keys, perhaps one of the key, and pairs of higher keys
module _ (key : List ℕ) (front back : List Property) (lower : AllByRecursion (λ pair. compared key pair ≡ Less) front) (higher : AllByRecursion (λ pair. compared key pair ≡ Greater) back) where
  sift_front : (test : Property → Bool) (b : Bool) → ((pair : Property) → compared key pair ≡ Less → test pair ≡ b) → filter test front ≡ cond b front []
  sift_front test b so = filter_told test (compared key) Less b so front lower

  sift_back : (test : Property → Bool) (b : Bool) → ((pair : Property) → compared key pair ≡ Greater → test pair ≡ b) → filter test back ≡ cond b back []
  sift_back test b so = filter_told test (compared key) Greater b so back higher

  abbrev below_key : Property → Bool
  below_key pair = is_lt (compared key pair)

  abbrev above_key : Property → Bool
  above_key pair = is_gt (compared key pair)

  abbrev other_key : Property → Bool
  other_key pair = not (has_key key pair)

  front_below : filter below_key front ≡ front
  front_below = sift_front below_key true (λ pair is. ap is_lt is)

  back_below : filter below_key back ≡ []
  back_below = sift_back below_key false (λ pair is. ap is_lt is)

  front_above : filter above_key front ≡ []
  front_above = sift_front above_key false (λ pair is. ap is_gt is)

  back_above : filter above_key back ≡ back
  back_above = sift_back above_key true (λ pair is. ap is_gt is)

  front_other : filter other_key front ≡ front
  front_other = sift_front other_key true (λ pair is. ap not (has_key-told key Less pair is))

  back_other : filter other_key back ≡ back
  back_other = sift_back other_key true (λ pair is. ap not (has_key-told key Greater pair is))

  front_finds : find (has_key key) front ≡ None
  front_finds = find_told (has_key key) (compared key) Less (λ pair is. has_key-told key Less pair is) front lower

  back_finds : find (has_key key) back ≡ None
  back_finds = find_told (has_key key) (compared key) Greater (λ pair is. has_key-told key Greater pair is) back higher

  -- where no pair has the key
  pub without_key-gap : without_key key (front ++ back) ≡ front ++ back
  unfolding without_key
  without_key-gap = filter-append other_key front back ∙ (λ i. front_other i ++ back_other i)

  pub value_of-gap : value_of key (front ++ back) ≡ None
  value_of-gap = ap (option_map (λ pair. pair.value)) (find-append (has_key key) front back ∙ (λ i. option_or (front_finds i) (back_finds i)))

  pub with_value-gap : (pair : Property) → pair.key ≡ key → with_value pair (front ++ back) ≡ front ++ pair ∷ back
  unfolding with_value
  with_value-gap pair is =
      ap (λ k. filter (λ kept. is_lt (compared k kept)) (front ++ back) ++ pair ∷ filter (λ kept. is_gt (compared k kept)) (front ++ back)) is
      ∙ (λ i. filter-append below_key front back i ++ pair ∷ filter-append above_key front back i)
      ∙ (λ i. (front_below i ++ back_below i) ++ pair ∷ (front_above i ++ back_above i))
      ∙ ap (λ xs. xs ++ pair ∷ back) (append-nil front)

  -- where a pair between them has it
  module _ (here : Property) (is_here : compared key here ≡ Equal) where
    pub without_key-at : without_key key (front ++ here ∷ back) ≡ front ++ back
    unfolding without_key
    without_key-at =
        filter-append other_key front (here ∷ back)
        ∙ (λ i. front_other i ++ cond (not (has_key-told key Equal here is_here i)) (here ∷ back_other i) (back_other i))

    pub value_of-at : value_of key (front ++ here ∷ back) ≡ Some here.value
    value_of-at =
        ap (option_map (λ pair. pair.value)) (find-append (has_key key) front (here ∷ back) ∙ (λ i. option_or (front_finds i) (cond (has_key-told key Equal here is_here i) (Some here) (find (has_key key) back))))

    pub with_value-at : (pair : Property) → pair.key ≡ key → with_value pair (front ++ here ∷ back) ≡ front ++ pair ∷ back
    unfolding with_value
    with_value-at pair is =
        ap (λ k. filter (λ kept. is_lt (compared k kept)) (front ++ here ∷ back) ++ pair ∷ filter (λ kept. is_gt (compared k kept)) (front ++ here ∷ back)) is
        ∙ (λ i. filter-append below_key front (here ∷ back) i ++ pair ∷ filter-append above_key front (here ∷ back) i)
        ∙ (λ i. (front_below i ++ cond (is_lt (is_here i)) (here ∷ back_below i) (back_below i)) ++ pair ∷ (front_above i ++ cond (is_gt (is_here i)) (here ∷ back_above i) (back_above i)))
        ∙ ap (λ xs. xs ++ pair ∷ back) (append-nil front)

pub KeysAscend-nil : KeysAscend []
unfolding IsStrictlySortedBy
KeysAscend-nil = tt

-- one more pair between those of lower and of higher keys keeps the order
each_with : (P : Property → Type 0) (front back : List Property) (pair : Property) → AllByRecursion P (front ++ back) → P pair → AllByRecursion P (front ++ pair ∷ back)
each_with P [] back pair all here = (here, all)
each_with P (x ∷ front) back pair all here = (all.0, each_with P front back pair all.1 here)

each_turned : (key : List ℕ) (pair : Property) → pair.key ≡ key → (back : List Property) → AllByRecursion (λ kept. compared key kept ≡ Greater) back → AllByRecursion (λ kept. by_keys pair kept ≡ Less) back
each_turned key pair is [] all = tt
each_turned key pair is (x ∷ back) all = (
  ap (λ k. slice_cmp nat_cmp k x.key) is ∙ nat_list_cmp_total.antisymm key x.key ∙ ap ordering_reverse all.0,
  each_turned key pair is back all.1,
)

KeysAscend-with : (key : List ℕ) (pair : Property) → pair.key ≡ key → (front back : List Property) → KeysAscend (front ++ back)
    → AllByRecursion (λ kept. compared key kept ≡ Less) front → AllByRecursion (λ kept. compared key kept ≡ Greater) back → KeysAscend (front ++ pair ∷ back)
unfolding IsStrictlySortedBy
KeysAscend-with key pair is [] back ascend lower higher = (each_turned key pair is back higher, ascend)
KeysAscend-with key pair is (x ∷ front) back ascend lower higher = (
  each_with (λ kept. by_keys x kept ≡ Less) front back pair ascend.0 (ap (slice_cmp nat_cmp x.key) is ∙ lower.0),
  KeysAscend-with key pair is front back ascend.1 lower.1 higher,
)

-- the list around the place of a pair, with another one in its place
set_parts : (pairs : List Property) (place : ℕ) (pair : Property) → place < length pairs → set pairs place pair ≡ take place pairs ++ pair ∷ drop (suc place) pairs
set_parts [] place pair within = absurd (omega arith)
set_parts (x ∷ pairs) zero pair within = refl
set_parts (x ∷ pairs) (suc place) pair within = ap (λ kept. x ∷ kept) (set_parts pairs place pair (omega arith))

parts_at : (pairs : List Property) (place : ℕ) (d : Property) → place < length pairs → take place pairs ++ get_or pairs place d ∷ drop (suc place) pairs ≡ pairs
parts_at [] place d within = absurd (omega arith)
parts_at (x ∷ pairs) zero d within = refl
parts_at (x ∷ pairs) (suc place) d within = ap (λ kept. x ∷ kept) (parts_at pairs place d (omega arith))

-- the pairs around the place of the key
module _ (key : List ℕ) (pairs : List Property) (place : ℕ) (at : IsAt key pairs place) (d : Property) where
  cut : take place pairs ++ get_or pairs place d ∷ drop (suc place) pairs ≡ pairs
  cut = parts_at pairs place d at.within

  pub value_of-place : value_of key pairs ≡ Some (get_or pairs place d).value
  value_of-place = ap (value_of key) (sym cut) ∙ value_of-at key (take place pairs) (drop (suc place) pairs) at.around.lower at.around.higher (get_or pairs place d) (at.here d)

  pub without_key-place : remove pairs place ≡ without_key key pairs
  without_key-place = sym (ap (without_key key) (sym cut) ∙ without_key-at key (take place pairs) (drop (suc place) pairs) at.around.lower at.around.higher (get_or pairs place d) (at.here d))

  pub with_value-place : (pair : Property) → pair.key ≡ key → set pairs place pair ≡ with_value pair pairs
  with_value-place pair is =
      set_parts pairs place pair at.within ∙ sym (ap (with_value pair) (sym cut) ∙ with_value-at key (take place pairs) (drop (suc place) pairs) at.around.lower at.around.higher (get_or pairs place d) (at.here d) pair is)

  pub KeysAscend-without : KeysAscend pairs → KeysAscend (remove pairs place)
  unfolding without_key
  KeysAscend-without ascend =
      subst KeysAscend (sym without_key-place) (IsStrictlySortedBy-filter by_keys (λ kept. not (has_key key kept)) pairs ascend)

  pub KeysAscend-set : (pair : Property) → pair.key ≡ key → KeysAscend pairs → KeysAscend (set pairs place pair)
  KeysAscend-set pair is ascend =
      subst KeysAscend (sym (set_parts pairs place pair at.within)) (KeysAscend-with key pair is (take place pairs) (drop (suc place) pairs) (KeysAscend-without ascend) at.around.lower at.around.higher)

-- the pairs around the gap for a key
module _ (key : List ℕ) (pairs : List Property) (place : ℕ) (gap : IsGap key pairs place) where
  halves : take place pairs ++ drop place pairs ≡ pairs
  halves = take-append-drop place pairs

  pub value_of-missed : value_of key pairs ≡ None
  value_of-missed = ap (value_of key) (sym halves) ∙ value_of-gap key (take place pairs) (drop place pairs) gap.around.lower gap.around.higher

  pub without_key-missed : pairs ≡ without_key key pairs
  without_key-missed =
      sym halves ∙ sym (ap (without_key key) (sym halves) ∙ without_key-gap key (take place pairs) (drop place pairs) gap.around.lower gap.around.higher)

  pub with_value-insert : (pair : Property) → pair.key ≡ key → insert pairs place pair ≡ with_value pair pairs
  with_value-insert pair is =
      sym (ap (with_value pair) (sym halves) ∙ with_value-gap key (take place pairs) (drop place pairs) gap.around.lower gap.around.higher pair is)

  pub KeysAscend-insert : (pair : Property) → pair.key ≡ key → KeysAscend pairs → KeysAscend (insert pairs place pair)
  KeysAscend-insert pair is ascend =
      KeysAscend-with key pair is (take place pairs) (drop place pairs) (subst KeysAscend (sym halves) ascend) gap.around.lower gap.around.higher
