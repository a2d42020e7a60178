-- The place of an id's row in a list, how it is searched for, and the list once the row there is set or taken.
use Rattle.std.proofs.Common.{◌≡◌, ℕ, zero, suc, ◌<◌, ◌≤◌, ◌-◌, Bool, true, false, not, ◌||◌, List, [], ◌∷◌, ◌++◌, length, map, None, Some, Result, Ok, Err, HoldsAt, get_or, slice_get, slice_set, nat_eq, nat_lt, refl, sym, ap, subst, ◌∙◌, inl, inr, arith, true≢false}
use Rattle.std.specs.List.{list_any, IsDistinct, remove}
use Rattle.std.specs.Result.{result_ok}
use Rattle.std.specs.List.Sorted.{IsSearchInRange, IsBinarySearchResult, IsNonDecreasingBy}
use Rattle.std.specs.Ordering.{nat_cmp, ordering_index}
use Rattle.std.specs.declared.cmp.Ordering.TheVariants.{Less, Equal, Greater}
use native.Mathlib.Numerals.{unary_clauses}
use Rattle.std.proofs.lemmas.Bool.{cases_Bool, ne_eqb}
use Rattle.std.proofs.lemmas.Bool.Decides.{nat_tests}
use Rattle.std.proofs.lemmas.Cmp.{ranked}
use Rattle.std.proofs.lemmas.Option.{get_or_from_slice_get}
use Rattle.pol_tables.specs.Rising.{KeysAbove, KeysBelow, KeysRise}
use Rattle.pol_tables.specs.Table.{has_id, knows, row_of, rows_with, rows_without, IdsDiffer, IsPlace}
use Rattle.pol_tables.proofs.ListLemmas.{each-push}
use Rattle.pol_tables.proofs.RisingLemmas.{key-replaced}
use Rattle.pol_tables.proofs.TableLemmas.{Lacks, IdsDiffer-cons, IdsDiffer-filter, differ_head, differ_past, filter-lacks, lacks_past, lacks-unknown, map-lacks, replaced, rows_with-known, rows_with-new}

-- where no item passes a test, none does at any place
pub none-each : {A : Type 0} (test : A → Bool) (items : List A) → ((k : ℕ) (d : A) → k < length items → test (get_or items k d) ≡ false) → list_any test items ≡ false
none-each test [] fails = refl
none-each test (item ∷ items) fails =
    rw (fails 0 item (omega arith)) (none-each test items (λ k d within. fails (suc k) d (omega (arith, within))))

module _ {R : Type 0} (key : R → ℕ) where
  -- where no row has an id, none has it at any place
  no_place : (id : ℕ) (rows : List R) (place : ℕ) → Lacks key id rows → place < length rows → HoldsAt (λ row. has_id key id row ≡ true) rows place → ⊥
  no_place id [] place lacks within here = omega (arith, within)
  no_place id (row ∷ rows) zero lacks within here = true≢false (sym (here row) ∙ lacks.0)
  no_place id (row ∷ rows) (suc place) lacks within here = no_place id rows place lacks.1 (omega (arith, within)) here

  -- the row before the place of an id has another
  pub other_before : (id : ℕ) (row : R) (rows : List R) (place : ℕ) → IdsDiffer key (row ∷ rows) → IsPlace key id (row ∷ rows) (Some (suc place)) → has_id key id row ≡ false
  other_before id row rows place differ is = elim (cases_Bool (has_id key id row)) [
    | inl here ↦ absurd (no_place id rows place (lacks_past key id row rows differ here) (omega (arith, is.0)) is.1)
    | inr other ↦ other
  ]

  -- a place past the first row is one past it
  place_past : (id : ℕ) (row : R) (rows : List R) (place : ℕ) → IsPlace key id (row ∷ rows) (Some (suc place)) → IsPlace key id rows (Some place)
  place_past id row rows place is = (omega (arith, is.0), is.1)

  -- where no place is found there is no row, and none to take
  pub missed-at : (id : ℕ) (rows : List R) → IsPlace key id rows None → None ≡ row_of key id rows
  missed-at id [] unknown = refl
  missed-at id (row ∷ rows) unknown = elim (cases_Bool (has_id key id row)) [
    | inl here ↦ absurd (true≢false (sym (ap (λ b. b || knows key id rows) here) ∙ unknown))
    | inr other ↦ rw other (missed-at id rows (sym (ap (λ b. b || knows key id rows) other) ∙ unknown))
  ]

  pub kept-at : (id : ℕ) (rows : List R) → IsPlace key id rows None → rows ≡ rows_without key id rows
  unfolding rows_without
  kept-at id rows unknown = sym (filter-lacks key id rows (lacks-unknown key id rows unknown))

  -- an id that has a place is known
  pub known-at : (id : ℕ) (rows : List R) (place : ℕ) → IsPlace key id rows (Some place) → knows key id rows ≡ true
  known-at id [] place is = absurd (omega (arith, is.0))
  known-at id (row ∷ rows) zero is = rw (is.1 row) refl
  known-at id (row ∷ rows) (suc place) is =
      rw (known-at id rows place (place_past id row rows place is)) (either (has_id key id row))
    where
      either : (b : Bool) → (b || true) ≡ true
      either true = refl
      either false = refl

  -- taking the row at the place of an id takes that of the id
  pub removed-at : (id : ℕ) (rows : List R) (place : ℕ) → IdsDiffer key rows → IsPlace key id rows (Some place) → remove rows place ≡ rows_without key id rows
  unfolding rows_without
  removed-at id [] place differ is = absurd (omega (arith, is.0))
  removed-at id (row ∷ rows) zero differ is =
      rw (is.1 row) (sym (filter-lacks key id rows (lacks_past key id row rows differ (is.1 row))))
  removed-at id (row ∷ rows) (suc place) differ is =
      rw (other_before id row rows place differ is) (ap (λ kept. row ∷ kept) (removed-at id rows place (differ_past key row rows differ) (place_past id row rows place is)))

  -- setting the row at the place of its id replaces that of the id
  replaced-at : (new : R) (rows : List R) (place : ℕ) → IdsDiffer key rows → IsPlace key (key new) rows (Some place) → slice_set rows place new ≡ map (replaced key new) rows
  replaced-at new [] place differ is = absurd (omega (arith, is.0))
  replaced-at new (row ∷ rows) zero differ is =
      rw (is.1 row) (ap (λ kept. new ∷ kept) (sym (map-lacks key (key new) new rows (lacks_past key (key new) row rows differ (is.1 row)))))
  replaced-at new (row ∷ rows) (suc place) differ is =
      rw (other_before (key new) row rows place differ is) (ap (λ kept. row ∷ kept) (replaced-at new rows place (differ_past key row rows differ) (place_past (key new) row rows place is)))

  pub set-at : (new : R) (rows : List R) (place : ℕ) → IdsDiffer key rows → IsPlace key (key new) rows (Some place) → slice_set rows place new ≡ rows_with key new rows
  set-at new rows place differ is =
      replaced-at new rows place differ is ∙ sym (rows_with-known key new rows (known-at (key new) rows place is))

  -- ids differ still once a row is put or taken
  ids-map : (alter : R → R) → ((row : R) → key (alter row) ≡ key row) → (rows : List R) → map key (map alter rows) ≡ map key rows
  ids-map alter keeps [] = refl
  ids-map alter keeps (row ∷ rows) = λ i. keeps row i ∷ ids-map alter keeps rows i

  IdsDiffer-push : (row : R) (rows : List R) → IdsDiffer key rows → Lacks key (key row) rows → IdsDiffer key (rows ++ row ∷ [])
  IdsDiffer-push row [] differ lacks = IdsDiffer-cons key row [] tt differ
  IdsDiffer-push row (first ∷ rows) differ lacks =
      let apart : has_id key (key first) row ≡ false = ne_eqb (key first) (key row) (λ is. true≢false (grind (arith, nat_tests, lacks.0, is))) in
      IdsDiffer-cons key first (rows ++ row ∷ []) (each-push (λ later. has_id key (key first) later ≡ false) rows row (differ_head key first rows differ) apart) (IdsDiffer-push row rows (differ_past key first rows differ) lacks.1)

  pub IdsDiffer-rows_with : (row : R) (rows : List R) → IdsDiffer key rows → IdsDiffer key (rows_with key row rows)
  IdsDiffer-rows_with row rows differ = elim (cases_Bool (knows key (key row) rows)) [
    | inl known ↦ rw (rows_with-known key row rows known) (subst (λ ids. IsDistinct nat_eq ids) (sym (ids-map (replaced key row) (key-replaced key row) rows)) differ)
    | inr new ↦ rw (rows_with-new key row rows new) (IdsDiffer-push row rows differ (lacks-unknown key (key row) rows new))
  ]

  pub IdsDiffer-rows_without : (id : ℕ) (rows : List R) → IdsDiffer key rows → IdsDiffer key (rows_without key id rows)
  unfolding rows_without
  IdsDiffer-rows_without id rows differ = IdsDiffer-filter key (λ row. not (has_id key id row)) rows differ

  -- rising keys rise from place to place
  above-at : (low : ℕ) (rows : List R) (k : ℕ) (d : R) → KeysAbove key low rows → k < length rows → low < key (get_or rows k d)
  above-at low [] k d above within = absurd (omega (arith, within))
  above-at low (row ∷ rows) zero d above within = above.0
  above-at low (row ∷ rows) (suc k) d above within = above-at low rows k d above.1 (omega (arith, within))

  rise-at : (rows : List R) (i j : ℕ) (d : R) → KeysRise key rows → i ≤ j → j < length rows → key (get_or rows i d) ≤ key (get_or rows j d)
  unfolding KeysRise
  rise-at [] i j d rise upto within = absurd (omega (arith, within))
  rise-at (row ∷ rows) zero zero d rise upto within = omega arith
  rise-at (row ∷ rows) zero (suc j) d rise upto within = omega (arith, above-at (key row) rows j d rise.0 (omega (arith, within)))
  rise-at (row ∷ rows) (suc i) zero d rise upto within = absurd (omega (arith, upto))
  rise-at (row ∷ rows) (suc i) (suc j) d rise upto within = rise-at rows i j d rise.1 (omega (arith, upto)) (omega (arith, within))

  module _ (id : ℕ) (rows : List R) where
    ranks_rise : KeysRise key rows → IsNonDecreasingBy (λ row. ordering_index (nat_cmp (key row) id)) rows
    ranks_rise rise i j d upto within = (let keys = rise-at rows i j d rise upto within in grind (arith, nat_tests))

    is-equal : (k : ℕ) → nat_cmp k id ≡ Equal → nat_eq id k ≡ true
    is-equal k is = grind (arith, nat_tests, ranked k id _ (sym is))

    is-less : (k : ℕ) → nat_cmp k id ≡ Less → nat_eq id k ≡ false
    is-less k is = ne_eqb id k (λ same. omega (arith, ranked k id _ (sym is), same))

    is-greater : (k : ℕ) → nat_cmp k id ≡ Greater → nat_eq id k ≡ false
    is-greater k is = ne_eqb id k (λ same. omega (arith, ranked k id _ (sym is), same))

    -- a search by halves finds the place of an id where keys rise
    pub searched : (result : Result ℕ ℕ) → KeysRise key rows → IsSearchInRange result (length rows) → IsBinarySearchResult (λ row. nat_cmp (key row) id) rows result → IsPlace key id rows (result_ok result)
    searched (Ok place) rise within found = (within, λ d. is-equal (key (get_or rows place d)) (found d))
    searched (Err place) rise within parted = none-each (has_id key id) rows (λ k d inside. by k d inside (nat_lt k place) refl)
      where
        by : (k : ℕ) (d : R) → k < length rows → (b : Bool) → nat_lt k place ≡ b → has_id key id (get_or rows k d) ≡ false
        by k d inside true before = is-less (key (get_or rows k d)) ((parted (ranks_rise rise)).0 k d (omega arith) (grind (arith, nat_tests, before)))
        by k d inside false behind = is-greater (key (get_or rows k d)) ((parted (ranks_rise rise)).1 k d (grind (arith, nat_tests, behind)) inside)

  -- keys that rise are below an id that is above the last
  below-last : (id : ℕ) (rows : List R) (k : ℕ) (d : R) → KeysRise key rows → suc k ≡ length rows → key (get_or rows k d) < id → KeysBelow key id rows
  unfolding KeysRise
  below-last id [] k d rise last under = absurd (omega (arith, last))
  below-last id (row ∷ []) zero d rise last under = (under, tt)
  below-last id (row ∷ []) (suc k) d rise last under = absurd (omega (arith, last))
  below-last id (row ∷ second ∷ rows) zero d rise last under = absurd (omega (arith, last))
  below-last id (row ∷ second ∷ rows) (suc k) d rise last under = (
    omega (arith, above-at (key row) (second ∷ rows) k d rise.0 (omega (arith, last)), under),
    below-last id (second ∷ rows) k d rise.1 (omega (arith, last)) under,
  )

  pub below-found : (id : ℕ) (rows : List R) (last : R) → Some last ≡ slice_get rows (length rows - 1) → key last < id → KeysRise key rows → KeysBelow key id rows
  below-found id [] last found under rise = tt
  below-found id (row ∷ rows) last found under rise =
      let here : get_or (row ∷ rows) (length rows) last ≡ last = get_or_from_slice_get (row ∷ rows) (length rows) last last (sym (simp unary_clauses at found)) in
      below-last id (row ∷ rows) (length rows) last rise refl (subst (λ kept. key kept < id) (sym here) under)

  -- a list without a last row has none
  inside : (row : R) (rows : List R) (k : ℕ) → k ≤ length rows → None ≡ slice_get (row ∷ rows) k → ⊥
  inside row rows zero within none = cc
  inside row [] (suc k) within none = omega (arith, within)
  inside row (second ∷ rows) (suc k) within none = inside second rows k (omega (arith, within)) none

  pub empty-rise : (id : ℕ) (rows : List R) → None ≡ slice_get rows (length rows - 1) → KeysRise key rows × KeysBelow key id rows
  unfolding KeysRise
  empty-rise id [] none = (tt, tt)
  empty-rise id (row ∷ rows) none = absurd (inside row rows (length rows) (omega arith) (simp unary_clauses at none))
