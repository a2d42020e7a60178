-- A list that is sorted and then freed of repeats is the set of its keys, in byte order.
use Rattle.std.proofs.Common.{◌≡◌, ℕ, Bool, true, false, not, cond, filter, is_some, true≢false, ◌&&◌, ◌||◌, T, Some, None, nat_eq, List, [], ◌∷◌, map, refl, sym, ap, subst, ◌∙◌}
use Rattle.std.specs.Cmp.Lexicographic.{slice_cmp, nat_list_cmp_total, nat_list_eq_equiv, pointwise, texts_ties}
use Rattle.std.specs.FinMap as map_of
use Rattle.std.specs.FinMap.Entries.{below_all, find, is_some-find, is_sorted}
use Rattle.std.specs.List.{dedup, list_any, AllByRecursion}
use Rattle.std.specs.List.Sorted.{IsPermutation, IsSorted, IsStrictlySortedBy}
use Rattle.std.specs.Ordering.{nat_cmp, eq_by_cmp, is_lt}
use Rattle.std.specs.Str.{bytes_eq}
use Rattle.std.specs.declared.cmp.Ordering.{Ordering}
use Rattle.std.specs.declared.cmp.Ordering.TheVariants.{Less, Equal, Greater}
use Rattle.std.proofs.Math.Bool.{and-false}
use Rattle.std.proofs.lemmas.Bool.{and_parts}
use Rattle.std.proofs.lemmas.Cmp.{eq_by_cmp_equiv}
use Rattle.std.proofs.lemmas.List.Kept.{IsStrictlySortedBy-dedup, Contains-dedup, Contains-from_dedup}
use Rattle.std.proofs.lemmas.List.Sorted.{Contains-permutation, IsPermutation-sym}
use Rattle.std.proofs.lemmas.Map.Views.{list_any-from_Contains, Contains-from_any}
use Rattle.std.proofs.lemmas.Slice.Eq.{bytes_eq-Decides}
use Rattle.pol_properties.specs.Laws.{MissingKeysAreThose, MissingKeysAscend}
use Rattle.pol_properties.specs.Properties.{has_value, in_byte_order, is_among}

-- the order of texts by their bytes, in which only equal texts tie
exact : (left right : List ℕ) → eq_by_cmp (slice_cmp nat_cmp) left right ≡ true → left ≡ right
exact left right tied = (bytes_eq-Decides left right).0 (texts_ties left right ∙ tied)

-- a key as the entry of a set
abbrev entry : List ℕ → List ℕ × Unit {0}
entry key = (key, tt {0})

below_entries : (key : List ℕ) (keys : List (List ℕ)) → AllByRecursion (λ other. slice_cmp nat_cmp key other ≡ Less) keys → below_all (slice_cmp nat_cmp) key (map entry keys) ≡ true
below_entries key [] below = refl
below_entries key (other ∷ keys) below =
    ap (λ b. b && below_all (slice_cmp nat_cmp) key (map entry keys)) (ap is_lt below.0) ∙ below_entries key keys below.1

sorted_entries : (keys : List (List ℕ)) → IsStrictlySortedBy (slice_cmp nat_cmp) keys → is_sorted (slice_cmp nat_cmp) (map entry keys) ≡ true
unfolding IsStrictlySortedBy
sorted_entries [] ascend = refl
sorted_entries (key ∷ keys) ascend =
    ap (λ b. b && is_sorted (slice_cmp nat_cmp) (map entry keys)) (below_entries key keys ascend.0) ∙ sorted_entries keys ascend.1

keys_of_entries : (keys : List (List ℕ)) → map (λ (e : List ℕ × Unit {0}). e.0) (map entry keys) ≡ keys
keys_of_entries [] = refl
keys_of_entries (key ∷ keys) = ap (λ others. key ∷ others) (keys_of_entries keys)

find-entries : (key : List ℕ) (keys : List (List ℕ)) → find (slice_cmp nat_cmp) key (map entry keys) ≡ cond (list_any (eq_by_cmp (slice_cmp nat_cmp) key) keys) (Some (tt {0})) None
find-entries key [] = refl
find-entries key (other ∷ keys) =
    ap (cond (eq_by_cmp (slice_cmp nat_cmp) key other) (Some (tt {0}))) (find-entries key keys)
    ∙ elim (eq_by_cmp (slice_cmp nat_cmp) key other) as (λ b. cond b (Some (tt {0})) (cond (list_any (eq_by_cmp (slice_cmp nat_cmp) key) keys) (Some (tt {0})) None) ≡ cond (b || list_any (eq_by_cmp (slice_cmp nat_cmp) key) keys) (Some (tt {0})) None) [ true ↦ refl | false ↦ refl ]

-- ascending keys that have the members of a list are its set
ascending : (chosen keys : List (List ℕ)) → IsStrictlySortedBy (slice_cmp nat_cmp) keys → ((key : List ℕ) → list_any (eq_by_cmp (slice_cmp nat_cmp) key) keys ≡ list_any (eq_by_cmp (slice_cmp nat_cmp) key) chosen) → keys ≡ in_byte_order chosen
ascending chosen keys ascend alike =
    let sorted : T (is_sorted (slice_cmp nat_cmp) (map entry keys)) = subst T (sym (sorted_entries keys ascend)) tt in
    let held : map_of.FinMap (slice_cmp nat_cmp) (Unit {0}) = map_of.from_sorted (map entry keys) in
    let made : map_of.FinMap (slice_cmp nat_cmp) (Unit {0}) = map_of.from_entries (map entry chosen) in
    let same : held ≡ made = map_of.same_map nat_list_cmp_total (map_of.slice_cmp-IsAntisymmetric map_of.nat_cmp-IsAntisymmetric) held made (λ key.
    map_of.get-from_sorted (slice_cmp nat_cmp) (map entry keys) key sorted ∙ find-entries key keys
    ∙ ap (λ b. cond b (Some (tt {0})) None) (alike key)
    ∙ sym (map_of.get-from_entries nat_list_cmp_total (map entry chosen) key ∙ find-entries key chosen)) in
    sym (ap (map (λ (e : List ℕ × Unit {0}). e.0)) (map_of.entries-from_sorted (slice_cmp nat_cmp) (map entry keys) sorted) ∙ keys_of_entries keys)
    ∙ ap map_of.keys same

same_answer : (left right : Bool) → (left ≡ true → right ≡ true) → (right ≡ true → left ≡ true) → left ≡ right
same_answer true right to from = sym (to refl)
same_answer false true to from = from refl
same_answer false false to from = refl

-- what a sort and the removal of repeats leave
pub sorted-in_byte_order : (chosen sorted : List (List ℕ)) → IsPermutation chosen sorted → IsSorted (slice_cmp nat_cmp) sorted → dedup (pointwise nat_eq) sorted ≡ in_byte_order chosen
sorted-in_byte_order chosen sorted moved rises =
    ascending chosen (dedup (pointwise nat_eq) sorted) (IsStrictlySortedBy-dedup nat_list_cmp_total texts_ties sorted rises) (λ key.
    same_answer (list_any (eq_by_cmp (slice_cmp nat_cmp) key) (dedup (pointwise nat_eq) sorted)) (list_any (eq_by_cmp (slice_cmp nat_cmp) key) chosen)
    (λ kept. list_any-from_Contains (eq_by_cmp_equiv nat_list_cmp_total) key chosen (Contains-permutation sorted chosen key (IsPermutation-sym chosen sorted moved) (Contains-from_dedup (pointwise nat_eq) sorted key (Contains-from_any exact key (dedup (pointwise nat_eq) sorted) kept))))
    (λ there. list_any-from_Contains (eq_by_cmp_equiv nat_list_cmp_total) key (dedup (pointwise nat_eq) sorted) (Contains-dedup nat_list_eq_equiv (λ left right same. (bytes_eq-Decides left right).0 same) sorted key (Contains-permutation chosen sorted key moved (Contains-from_any exact key chosen there)))))

-- what a filter keeps of the members of a list
module _ (key : List ℕ) (keep : List ℕ → Bool) where
  same_kept : (other : List ℕ) → bytes_eq other key ≡ true → keep other ≡ keep key
  same_kept other same = ap keep ((bytes_eq-Decides other key).0 same)

  filtered_first : (b k : Bool) (other : List ℕ) (chosen : List (List ℕ)) → bytes_eq other key ≡ b → keep other ≡ k → is_among (filter keep chosen) key ≡ (is_among chosen key && keep key) → is_among (filter keep (other ∷ chosen)) key ≡ (is_among (other ∷ chosen) key && keep key)
  filtered_first true true other chosen same kept rest = rw (kept, same) (sym kept ∙ same_kept other same)
  filtered_first true false other chosen same kept rest =
      rw (kept, same) (rest ∙ ap (λ b. is_among chosen key && b) (sym (same_kept other same) ∙ kept) ∙ and-false (is_among chosen key) ∙ sym kept ∙ same_kept other same)
  filtered_first false true other chosen same kept rest = rw (kept, same) rest
  filtered_first false false other chosen same kept rest = rw (kept, same) rest

  is_among-filter : (chosen : List (List ℕ)) → is_among (filter keep chosen) key ≡ (is_among chosen key && keep key)
  is_among-filter [] = refl
  is_among-filter (other ∷ chosen) =
      filtered_first (bytes_eq other key) (keep other) other chosen refl refl (is_among-filter chosen)

is_among-tied : (key : List ℕ) (keys : List (List ℕ)) → list_any (eq_by_cmp (slice_cmp nat_cmp) key) keys ≡ is_among keys key
is_among-tied key [] = refl
is_among-tied key (other ∷ keys) =
    λ i. (sym (texts_ties key other) ∙ nat_list_eq_equiv.symm key other) i || is_among-tied key keys i

-- the set of keys has them and no others
is_among-in_byte_order : (key : List ℕ) (chosen : List (List ℕ)) → is_among (in_byte_order chosen) key ≡ is_among chosen key
is_among-in_byte_order key chosen =
    let made : map_of.FinMap (slice_cmp nat_cmp) (Unit {0}) = map_of.from_entries (map entry chosen) in
    sym (is_among-tied key (in_byte_order chosen))
    ∙ sym (is_some-find (slice_cmp nat_cmp) key (map_of.entries made))
    ∙ ap is_some (sym (map_of.get-entries made key) ∙ map_of.get-from_entries nat_list_cmp_total (map entry chosen) key ∙ find-entries key chosen)
    ∙ elim (list_any (eq_by_cmp (slice_cmp nat_cmp) key) chosen) as (λ b. is_some (cond b (Some (tt {0})) None) ≡ b) [ true ↦ refl | false ↦ refl ]
    ∙ is_among-tied key chosen

pub missing_keys_are_those : MissingKeysAreThose
missing_keys_are_those key removals pairs =
    is_among-in_byte_order key (filter (λ other. not (has_value pairs other)) removals)
    ∙ is_among-filter key (λ other. not (has_value pairs other)) removals

less : (o : Ordering) → is_lt o ≡ true → o ≡ Less
less Less is = refl
less Equal is = absurd (true≢false (sym is))
less Greater is = absurd (true≢false (sym is))

ascend_below : (key : List ℕ) (es : List (List ℕ × Unit {0})) → below_all (slice_cmp nat_cmp) key es ≡ true → AllByRecursion (λ other. slice_cmp nat_cmp key other ≡ Less) (map (λ (e : List ℕ × Unit {0}). e.0) es)
ascend_below key [] below = tt
ascend_below key (e ∷ es) below =
    let parts = and_parts (is_lt (slice_cmp nat_cmp key e.0)) (below_all (slice_cmp nat_cmp) key es) below in
    (less (slice_cmp nat_cmp key e.0) parts.0, ascend_below key es parts.1)

ascend_entries : (es : List (List ℕ × Unit {0})) → is_sorted (slice_cmp nat_cmp) es ≡ true → IsStrictlySortedBy (slice_cmp nat_cmp) (map (λ (e : List ℕ × Unit {0}). e.0) es)
unfolding IsStrictlySortedBy
ascend_entries [] sorted = tt
ascend_entries (e ∷ es) sorted =
    let parts = and_parts (below_all (slice_cmp nat_cmp) e.0 es) (is_sorted (slice_cmp nat_cmp) es) sorted in
    (ascend_below e.0 es parts.0, ascend_entries es parts.1)

told : (b : Bool) → T b → b ≡ true
told true is = refl
told false is = absurd is

pub missing_keys_ascend : MissingKeysAscend
missing_keys_ascend removals pairs =
    let made : map_of.FinMap (slice_cmp nat_cmp) (Unit {0}) = map_of.from_entries (map entry (filter (λ key. not (has_value pairs key)) removals)) in
    ascend_entries (map_of.entries made) (told (is_sorted (slice_cmp nat_cmp) (map_of.entries made)) (map_of.entries_sorted made))
