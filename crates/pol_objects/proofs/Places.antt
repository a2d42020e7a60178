-- Entries under rising keys, by the place at which a search for a key ends.
use Rattle.std.proofs.Common.{◌≡◌, ℕ, zero, suc, ◌+◌, ◌<◌, ◌≤◌, ◌⊎◌, Bool, true, false, List, [], ◌∷◌, length, take, drop, get_or, refl, ap, sym, ◌∙◌, subst, arith, inl, inr, Some, None, cond, not, ◌&&◌, true≢false}
use Rattle.std.specs.BTreeMap.{insert_entry, is_at}
use Rattle.std.specs.Cmp.{IsTotalOrder}
use Rattle.std.specs.List.{AllByRecursion, All, AllWithin, filter, insert, prefix_len, remove, take_while}
use Rattle.std.specs.List.Sorted.{IsPartitionedBy, IsStrictlySortedBy}
use Rattle.std.specs.Map.{keys_of, lookup, remove_entry}
use Rattle.std.specs.Ordering.{is_eq, is_lt, match_ordering, ordering_reverse}
use Rattle.std.specs.declared.cmp.Ordering.{Ordering}
use Rattle.std.specs.declared.cmp.Ordering.TheVariants.{Equal, Greater, Less}
use Rattle.std.proofs.lemmas.Bool.{cases_lt, false_from_ne_true}
use Rattle.std.proofs.lemmas.List.{get_or-map, length-map}
use Rattle.std.proofs.lemmas.Map.Entries.{lookup_at_gap}
use Rattle.std.proofs.lemmas.Option.{get_or_from_slice_get, slice_get_within}
use Rattle.std.proofs.lemmas.Map.Keys.{Less-from_sorted}

less-of : (o : Ordering) → is_lt o ≡ true → o ≡ Less
less-of Less holds = refl
less-of Equal holds = cc
less-of Greater holds = cc

module _ {K X : Type 0} (cmp : K → K → Ordering) (total : IsTotalOrder cmp) (key : K) where
  -- an entry comes before the key
  abbrev pub comes_before : K × X → Bool
  comes_before entry = is_lt (cmp entry.0 key)

  pub before-parted : (entries : List (K × X)) → IsStrictlySortedBy cmp (keys_of entries) → IsPartitionedBy comes_before entries
  before-parted entries rising i j d upto inside holds = by (cases_lt i j)
    where
      by : (i < j) ⊎ (j ≤ i) → comes_before (get_or entries i d) ≡ true
      by (inl below) =
          let within : j < length (keys_of entries) = subst (λ n. j < n) (sym (length-map entries (λ (e : K × X). e.0))) inside in
          let rises : cmp (get_or (keys_of entries) i d.0) (get_or (keys_of entries) j d.0) ≡ Less = Less-from_sorted cmp (keys_of entries) i j d.0 rising below within in
          let first : get_or (keys_of entries) i d.0 ≡ (get_or entries i d).0 = get_or-map (λ (e : K × X). e.0) entries i d d.0 (omega arith) in
          let next : get_or (keys_of entries) j d.0 ≡ (get_or entries j d).0 = get_or-map (λ (e : K × X). e.0) entries j d d.0 inside in
          ap is_lt (total.trans (get_or entries i d).0 (get_or entries j d).0 key ((λ k. cmp (sym first k) (sym next k)) ∙ rises) (less-of (cmp (get_or entries j d).0 key) holds))
      by (inr above) = ap (λ n. comes_before (get_or entries n d)) (let same : i ≡ j = omega arith in same) ∙ holds

  -- an entry is put in where those that come before its key end
  pub insert-at : (entries : List (K × X)) (n : ℕ) (value : X) → n ≤ length entries → AllWithin (λ entry. comes_before entry ≡ true) entries 0 n → ((d : K × X) → n < length entries → cmp key (get_or entries n d).0 ≡ Less) → insert entries n (key, value) ≡ insert_entry cmp entries key value
  insert-at [] zero value within before behind = refl
  insert-at [] (suc n) value within before behind = absurd (omega arith)
  insert-at (e ∷ entries) zero value within before behind =
      sym (ap (λ o. match_ordering o ((key, value) ∷ e ∷ entries) ((e.0, value) ∷ entries) (e ∷ insert_entry cmp entries key value)) (behind e (omega arith)))
  insert-at (e ∷ entries) (suc n) value within before behind =
      let greater : cmp key e.0 ≡ Greater = total.antisymm key e.0 ∙ ap ordering_reverse (less-of (cmp e.0 key) (before 0 e (omega arith) (omega arith))) in
      ap (λ rest. e ∷ rest) (insert-at entries n value (omega arith) (λ k d low high. before (suc k) d (omega arith) (omega arith)) (λ d inside. behind d (omega arith)))
      ∙ sym (ap (λ o. match_ordering o ((key, value) ∷ e ∷ entries) ((e.0, value) ∷ entries) (e ∷ insert_entry cmp entries key value)) greater)

  -- the entry of a key is taken away
  pub remove-at : (entries : List (K × X)) (n : ℕ) → n < length entries → AllWithin (λ entry. comes_before entry ≡ true) entries 0 n → ((d : K × X) → is_eq (cmp key (get_or entries n d).0) ≡ true) → remove entries n ≡ remove_entry (is_at (cmp key)) entries
  remove-at [] n inside before here = absurd (omega arith)
  remove-at (e ∷ entries) zero inside before here = sym (ap (λ b. cond b entries (e ∷ remove_entry (is_at (cmp key)) entries)) (here e))
  remove-at (e ∷ entries) (suc n) inside before here =
      let greater : cmp key e.0 ≡ Greater = total.antisymm key e.0 ∙ ap ordering_reverse (less-of (cmp e.0 key) (before 0 e (omega arith) (omega arith))) in
      ap (λ rest. e ∷ rest) (remove-at entries n (omega arith) (λ k d low high. before (suc k) d (omega arith) (omega arith)) here)
      ∙ sym (ap (λ o. cond (is_eq o) entries (e ∷ remove_entry (is_at (cmp key)) entries)) greater)

  -- a look-up finds the entry at the place, where that has the key
  pub found-at : (entries : List (K × X)) (n : ℕ) (d : K × X) → n < length entries → AllWithin (λ entry. comes_before entry ≡ true) entries 0 n → is_eq (cmp key (get_or entries n d).0) ≡ true → lookup (is_at (cmp key)) entries ≡ Some (get_or entries n d).1
  found-at [] n d inside before here = absurd (omega arith)
  found-at (e ∷ entries) zero d inside before here = ap (λ b. cond b (Some e.1) (lookup (is_at (cmp key)) entries)) here
  found-at (e ∷ entries) (suc n) d inside before here =
      let greater : cmp key e.0 ≡ Greater = total.antisymm key e.0 ∙ ap ordering_reverse (less-of (cmp e.0 key) (before 0 e (omega arith) (omega arith))) in
      ap (λ o. cond (is_eq o) (Some e.1) (lookup (is_at (cmp key)) entries)) greater
      ∙ found-at entries n d (omega arith) (λ k d low high. before (suc k) d (omega arith) (omega arith)) here

  -- and nothing, where that has another key or is the end
  pub missing-at : (entries : List (K × X)) (n : ℕ) → IsStrictlySortedBy cmp (keys_of entries) → AllWithin (λ entry. comes_before entry ≡ true) entries 0 n → ((d : K × X) → n < length entries → cmp key (get_or entries n d).0 ≡ Less) → lookup (is_at (cmp key)) entries ≡ None
  missing-at entries n rising before behind =
      lookup_at_gap total key entries n rising
      (λ j e below is. total.antisymm key e.0 ∙ ap ordering_reverse (less-of (cmp e.0 key) (ap (λ (some : K × X). is_lt (cmp some.0 key)) (sym (get_or_from_slice_get entries j e e is)) ∙ before j e (omega arith) below)))
      (λ e is. ap (λ (some : K × X). cmp key some.0) (sym (get_or_from_slice_get entries n e e is)) ∙ behind e (slice_get_within entries n e is))

-- entries still rise with one more, or without one
module _ {K X : Type 0} (cmp : K → K → Ordering) (total : IsTotalOrder cmp) (key : K) (value : X) where
  each-insert : (P : K → Type 0) (entries : List (K × X)) (n : ℕ) → P key → AllByRecursion P (keys_of entries) → AllByRecursion P (keys_of (insert entries n (key, value)))
  each-insert P [] zero own all = (own, tt)
  each-insert P [] (suc n) own all = (own, tt)
  each-insert P (e ∷ entries) zero own all = (own, all)
  each-insert P (e ∷ entries) (suc n) own all = (all.0, each-insert P entries n own all.1)

  each-above : (least : K) (keys : List K) → cmp key least ≡ Less → AllByRecursion (λ other. cmp least other ≡ Less) keys → AllByRecursion (λ other. cmp key other ≡ Less) keys
  each-above least [] below all = tt
  each-above least (other ∷ keys) below all = (total.trans key least other below all.0, each-above least keys below all.1)

  pub rising-insert : (entries : List (K × X)) (n : ℕ) → IsStrictlySortedBy cmp (keys_of entries) → AllWithin (λ entry. is_lt (cmp entry.0 key) ≡ true) entries 0 n → ((d : K × X) → n < length entries → cmp key (get_or entries n d).0 ≡ Less) → n ≤ length entries → IsStrictlySortedBy cmp (keys_of (insert entries n (key, value)))
  unfolding IsStrictlySortedBy
  rising-insert [] zero rising before behind within = (tt, tt)
  rising-insert [] (suc n) rising before behind within = (tt, tt)
  rising-insert (e ∷ entries) zero rising before behind within =
      let below : cmp key e.0 ≡ Less = behind e (omega arith) in
      ((below, each-above e.0 (keys_of entries) below rising.0), rising)
  rising-insert (e ∷ entries) (suc n) rising before behind within = (
    each-insert (λ other. cmp e.0 other ≡ Less) entries n (less-of (cmp e.0 key) (before 0 e (omega arith) (omega arith))) rising.0,
    rising-insert entries n rising.1 (λ k d low high. before (suc k) d (omega arith) (omega arith)) (λ d inside. behind d (omega arith)) (omega arith),
  )

module _ {K X : Type 0} (cmp : K → K → Ordering) where
  each-remove : (P : K → Type 0) (entries : List (K × X)) (n : ℕ) → AllByRecursion P (keys_of entries) → AllByRecursion P (keys_of (remove entries n))
  each-remove P [] zero all = tt
  each-remove P [] (suc n) all = tt
  each-remove P (e ∷ entries) zero all = all.1
  each-remove P (e ∷ entries) (suc n) all = (all.0, each-remove P entries n all.1)

  pub rising-remove : (entries : List (K × X)) (n : ℕ) → IsStrictlySortedBy cmp (keys_of entries) → IsStrictlySortedBy cmp (keys_of (remove entries n))
  unfolding IsStrictlySortedBy
  rising-remove [] zero rising = tt
  rising-remove [] (suc n) rising = tt
  rising-remove (e ∷ entries) zero rising = rising.1
  rising-remove (e ∷ entries) (suc n) rising = (each-remove (λ other. cmp e.0 other ≡ Less) entries n rising.0, rising-remove entries n rising.1)

-- the items between two places: those from the first on, as long as a test holds
module _ {A : Type 0} (late : A → Bool) where
  none-late : (items : List A) → All (λ item. late item ≡ false) items → filter late items ≡ []
  none-late [] none = refl
  none-late (x ∷ items) none =
      ap (λ b. cond b (x ∷ filter late items) (filter late items)) (none 0 x (omega arith)) ∙ none-late items (λ k d inside. none (suc k) d (omega arith))

  pub front-late : (items : List A) → IsPartitionedBy late items → filter late items ≡ take_while late items
  front-late [] parted = refl
  front-late (x ∷ items) parted = by (late x) refl (front-late items (λ i j d upto inside. parted (suc i) (suc j) d (omega arith) (omega arith)))
    where
      by : (b : Bool) → late x ≡ b → filter late items ≡ take_while late items → filter late (x ∷ items) ≡ take_while late (x ∷ items)
      by true is rest =
          ap (λ b. cond b (x ∷ filter late items) (filter late items)) is
          ∙ ap (λ some. x ∷ some) rest
          ∙ ap (λ n. take n (x ∷ items)) (let e : suc (prefix_len late items) ≡ 1 + prefix_len late items = omega arith in e)
          ∙ sym (ap (λ b. take (cond b (1 + prefix_len late items) 0) (x ∷ items)) is)
      by false is rest =
          ap (λ b. cond b (x ∷ filter late items) (filter late items)) is
          ∙ none-late items (λ k d inside. false_from_ne_true (late (get_or items k d)) (λ holds. true≢false (sym (parted 0 (suc k) d (omega arith) (omega arith) holds) ∙ is)))
          ∙ sym (ap (λ b. take (cond b (1 + prefix_len late items) 0) (x ∷ items)) is)

  module _ (early : A → Bool) where
    all-late : (items : List A) → All (λ item. early item ≡ false) items → filter (λ item. not (early item) && late item) items ≡ filter late items
    all-late [] none = refl
    all-late (x ∷ items) none =
        ap (λ b. cond (not b && late x) (x ∷ filter (λ item. not (early item) && late item) items) (filter (λ item. not (early item) && late item) items)) (none 0 x (omega arith))
        ∙ ap (λ rest. cond (late x) (x ∷ rest) rest) (all-late items (λ k d inside. none (suc k) d (omega arith)))

    pub between-at : (items : List A) (n : ℕ) → AllWithin (λ item. early item ≡ true) items 0 n → AllWithin (λ item. early item ≡ false) items n (length items) → n ≤ length items → IsPartitionedBy late items → filter (λ item. not (early item) && late item) items ≡ take_while late (drop n items)
    between-at [] zero front behind within parted = refl
    between-at [] (suc n) front behind within parted = refl
    between-at (x ∷ items) zero front behind within parted = all-late (x ∷ items) (λ k d inside. behind k d (omega arith) inside) ∙ front-late (x ∷ items) parted
    between-at (x ∷ items) (suc n) front behind within parted =
        ap (λ b. cond (not b && late x) (x ∷ filter (λ item. not (early item) && late item) items) (filter (λ item. not (early item) && late item) items)) (front 0 x (omega arith) (omega arith))
        ∙ between-at items n (λ k d low high. front (suc k) d (omega arith) (omega arith)) (λ k d low high. behind (suc k) d (omega arith) (omega arith)) (omega arith) (λ i j d upto inside. parted (suc i) (suc j) d (omega arith) (omega arith))
