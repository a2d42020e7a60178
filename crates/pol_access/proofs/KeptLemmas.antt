-- Lists of rows that are pushed to, filtered and altered, and sets of facts that are put to.
use Rattle.std.proofs.Common.{◌≡◌, ℕ, Bool, true, false, not, cond, ◌&&◌, ◌||◌, List, [], ◌∷◌, ◌++◌, map, filter, Some, None, nat_eq, refl, sym, ap, subst, ◌∙◌, inl, inr, true≢false}
use Rattle.std.specs.Cmp.{IsEquivalence, nat_eq_equiv}
use Rattle.std.specs.Cmp.Lexicographic.{nat_list_eq_equiv}
use Rattle.std.specs.Coded.{Coded}
use Rattle.std.specs.List.{find, list_any, AllByRecursion, IsDistinct}
use Rattle.std.specs.Option.{option_or}
use Rattle.std.specs.Str.{bytes_eq}
use Rattle.std.proofs.lemmas.Bool.{cases_Bool, eqb-true}
use Rattle.std.proofs.lemmas.List.{map-append}
use Rattle.std.proofs.lemmas.List.Folds.{find-append, list_any-append}
use Rattle.std.proofs.lemmas.Map.Keys.{IsDistinct-cons, IsDistinct-head, IsDistinct-push, IsDistinct-tail}
use Rattle.pol_tables.specs.Facts.{facts_with, holds}
use Rattle.pol_tables.specs.Numbered.{AreNumbered}
use Rattle.pol_tables.specs.Same.{same}
use Rattle.pol_tables.specs.Table.{has_id, knows, rows_with}
use Rattle.pol_tables.proofs.FactChangesLemmas.{holds-facts_with, holds-filter}
use Rattle.pol_tables.proofs.FactsLemmas.{facts_with-known, facts_with-new}
use Rattle.pol_tables.proofs.ListLemmas.{each-all, each-filter, each-map, each-push, each-weaken, or_false, or_true}
use Rattle.pol_tables.proofs.NumberedLemmas.{below-next}
use Rattle.pol_tables.proofs.RisingLemmas.{knows-below}
use Rattle.pol_tables.proofs.SameLemmas.{same-refl, same-symmetric, same-true}
use Rattle.pol_tables.proofs.TableLemmas.{rows_with-new, some_is}

pub not-true : (b : Bool) → not b ≡ true → b ≡ false
not-true true is = sym is
not-true false is = refl

module _ {X : Type 0} (test : X → Bool) where
  -- what is found passes the test, and what holds of each item holds of it
  pub found-passes : (xs : List X) (x : X) → find test xs ≡ Some x → test x ≡ true
  found-passes [] x found = let contrary : None ≡ Some x = found in cc
  found-passes (first ∷ xs) x found = elim (cases_Bool (test first)) [
    | inl passes ↦
        let is : first ≡ x = some_is first x (sym (ap (λ b. cond b (Some first) (find test xs)) passes) ∙ found) in
        ap test (sym is) ∙ passes
    | inr fails ↦ found-passes xs x (sym (ap (λ b. cond b (Some first) (find test xs)) fails) ∙ found)
  ]

  pub found-holds : (P : X → Type 0) (xs : List X) (x : X) → AllByRecursion P xs → find test xs ≡ Some x → P x
  found-holds P [] x all found = let contrary : None ≡ Some x = found in cc
  found-holds P (first ∷ xs) x all found = elim (cases_Bool (test first)) [
    | inl passes ↦ subst P (some_is first x (sym (ap (λ b. cond b (Some first) (find test xs)) passes) ∙ found)) all.0
    | inr fails ↦ found-holds P xs x all.1 (sym (ap (λ b. cond b (Some first) (find test xs)) fails) ∙ found)
  ]

  -- what is found still is once more items follow, once a filter keeps it, and once all are altered under the test
  pub find-push : (xs ys : List X) (x : X) → find test xs ≡ Some x → find test (xs ++ ys) ≡ Some x
  find-push xs ys x found = find-append test xs ys ∙ ap (λ first. option_or first (find test ys)) found

  pub find-kept : (keep : X → Bool) (xs : List X) (x : X) → find test xs ≡ Some x → keep x ≡ true → find test (filter keep xs) ≡ Some x
  find-kept keep [] x found stays = found
  find-kept keep (first ∷ xs) x found stays = elim (cases_Bool (test first)) [
    | inl passes ↦
        let is : first ≡ x = some_is first x (sym (ap (λ b. cond b (Some first) (find test xs)) passes) ∙ found) in
        ap (λ b. find test (cond b (first ∷ filter keep xs) (filter keep xs))) (ap keep is ∙ stays) ∙ (ap (λ b. cond b (Some first) (find test (filter keep xs))) passes ∙ ap Some is)
    | inr fails ↦ past (keep first) fails (find-kept keep xs x (sym (ap (λ b. cond b (Some first) (find test xs)) fails) ∙ found) stays)
  ]
    where
      past : (b : Bool) → test first ≡ false → find test (filter keep xs) ≡ Some x → find test (cond b (first ∷ filter keep xs) (filter keep xs)) ≡ Some x
      past true fails rest = ap (λ t. cond t (Some first) (find test (filter keep xs))) fails ∙ rest
      past false fails rest = rest

  pub find-altered : (alter : X → X) → ((x : X) → test (alter x) ≡ test x) → (xs : List X) (x : X) → find test xs ≡ Some x → find test (map alter xs) ≡ Some (alter x)
  find-altered alter alike [] x found = let contrary : None ≡ Some x = found in cc
  find-altered alter alike (first ∷ xs) x found = elim (cases_Bool (test first)) [
    | inl passes ↦
        let is : first ≡ x = some_is first x (sym (ap (λ b. cond b (Some first) (find test xs)) passes) ∙ found) in
        ap (λ b. cond b (Some (alter first)) (find test (map alter xs))) (alike first ∙ passes) ∙ ap (λ item. Some (alter item)) is
    | inr fails ↦
        ap (λ b. cond b (Some (alter first)) (find test (map alter xs))) (alike first ∙ fails) ∙ find-altered alter alike xs x (sym (ap (λ b. cond b (Some first) (find test xs)) fails) ∙ found)
  ]

  -- where none is found, no item passes
  pub none-found : (xs : List X) → find test xs ≡ None → list_any test xs ≡ false
  none-found [] none = refl
  none-found (x ∷ xs) none = elim (cases_Bool (test x)) [
    | inl passes ↦ let contrary : Some x ≡ None = sym (ap (λ b. cond b (Some x) (find test xs)) passes) ∙ none in cc
    | inr fails ↦ ap (λ b. b || list_any test xs) fails ∙ none-found xs (sym (ap (λ b. cond b (Some x) (find test xs)) fails) ∙ none)
  ]

  -- where one of a list passes, one of a longer list does, and one of a filter that keeps each item that passes
  pub any-push : (xs : List X) (x : X) → list_any test xs ≡ true → list_any test (xs ++ x ∷ []) ≡ true
  any-push xs x there = list_any-append test xs (x ∷ []) ∙ ap (λ b. b || list_any test (x ∷ [])) there

  pub any-kept : (keep : X → Bool) (xs : List X) → AllByRecursion (λ x. test x ≡ true → keep x ≡ true) xs → list_any test xs ≡ true → list_any test (filter keep xs) ≡ true
  any-kept keep [] keeps there = absurd (true≢false (sym there))
  any-kept keep (x ∷ xs) keeps there = elim (cases_Bool (test x)) [
    | inl passes ↦ ap (λ b. list_any test (cond b (x ∷ filter keep xs) (filter keep xs))) (keeps.0 passes) ∙ ap (λ b. b || list_any test (filter keep xs)) passes
    | inr fails ↦ past (keep x) fails (any-kept keep xs keeps.1 (sym (ap (λ b. b || list_any test xs) fails) ∙ there))
  ]
    where
      past : (b : Bool) → test x ≡ false → list_any test (filter keep xs) ≡ true → list_any test (cond b (x ∷ filter keep xs) (filter keep xs)) ≡ true
      past true fails rest = ap (λ t. t || list_any test (filter keep xs)) fails ∙ rest
      past false fails rest = rest

  -- where none of a list passes, none of a filter does
  pub any-fewer : (keep : X → Bool) (xs : List X) → list_any test xs ≡ false → list_any test (filter keep xs) ≡ false
  any-fewer keep [] none = refl
  any-fewer keep (x ∷ xs) none = elim (cases_Bool (test x)) [
    | inl passes ↦ absurd (true≢false (sym (ap (λ b. b || list_any test xs) passes) ∙ none))
    | inr fails ↦
        let rest = any-fewer keep xs (sym (ap (λ b. b || list_any test xs) fails) ∙ none) in
        elim (keep x) as (λ b. list_any test (cond b (x ∷ filter keep xs) (filter keep xs)) ≡ false) [ true ↦ ap (λ b. b || list_any test (filter keep xs)) fails ∙ rest | false ↦ rest ]
  ]

-- what a filter keeps was there and passes
pub each-kept : {X : Type 0} (P Q : X → Type 0) (keep : X → Bool) (xs : List X) → AllByRecursion P xs → ((x : X) → P x → keep x ≡ true → Q x) → AllByRecursion Q (filter keep xs)
each-kept P Q keep [] all so = tt
each-kept P Q keep (x ∷ xs) all so = by (keep x) refl (each-kept P Q keep xs all.1 so)
  where
    by : (b : Bool) → keep x ≡ b → AllByRecursion Q (filter keep xs) → AllByRecursion Q (cond b (x ∷ filter keep xs) (filter keep xs))
    by true is rest = (so x all.0 is, rest)
    by false is rest = rest

-- images that differ still do where some are left out
module _ {X Y : Type 0} (equal : Y → Y → Bool) (image : X → Y) where
  each-of : (P : Y → Type 0) (xs : List X) → AllByRecursion P (map image xs) → AllByRecursion (λ x. P (image x)) xs
  each-of P [] all = tt
  each-of P (x ∷ xs) all = (all.0, each-of P xs all.1)

  pub images-kept : (keep : X → Bool) (xs : List X) → IsDistinct equal (map image xs) → IsDistinct equal (map image (filter keep xs))
  images-kept keep [] differ = differ
  images-kept keep (x ∷ xs) differ =
      let rest = images-kept keep xs (IsDistinct-tail equal (image x) (map image xs) differ) in
      let apart = each-filter (λ other. equal (image x) (image other) ≡ false) keep xs (each-of (λ other. equal (image x) other ≡ false) xs (IsDistinct-head equal (image x) (map image xs) differ)) in
      elim (keep x) as (λ b. IsDistinct equal (map image (cond b (x ∷ filter keep xs) (filter keep xs)))) [
        | true ↦ IsDistinct-cons equal (image x) (map image (filter keep xs)) (each-map (λ other. equal (image x) other ≡ false) image (filter keep xs) apart) rest
        | false ↦ rest
      ]

pub distinct-kept : {X : Type 0} (equal : X → X → Bool) (keep : X → Bool) (xs : List X) → IsDistinct equal xs → IsDistinct equal (filter keep xs)
distinct-kept equal keep [] differ = differ
distinct-kept equal keep (x ∷ xs) differ =
    let rest = distinct-kept equal keep xs (IsDistinct-tail equal x xs differ) in
    elim (keep x) as (λ b. IsDistinct equal (cond b (x ∷ filter keep xs) (filter keep xs))) [
      | true ↦ IsDistinct-cons equal x (filter keep xs) (each-filter (λ other. equal x other ≡ false) keep xs (IsDistinct-head equal x xs differ)) rest
      | false ↦ rest
    ]

-- names that differ still do once a row of a new name is pushed, and once rows are altered under their names
module _ {R : Type 0} (name : R → List ℕ) where
  any-named : (sought : List ℕ) (rows : List R) → list_any (bytes_eq sought) (map name rows) ≡ list_any (λ row. bytes_eq sought (name row)) rows
  any-named sought [] = refl
  any-named sought (row ∷ rows) = ap (λ b. bytes_eq sought (name row) || b) (any-named sought rows)

  pub names-push : (rows : List R) (row : R) → IsDistinct bytes_eq (map name rows) → find (λ kept. bytes_eq (name row) (name kept)) rows ≡ None → IsDistinct bytes_eq (map name (rows ++ row ∷ []))
  names-push rows row differ new =
      subst (IsDistinct bytes_eq) (sym (map-append name rows (row ∷ []))) (IsDistinct-push nat_list_eq_equiv (map name rows) (name row) differ (any-named (name row) rows ∙ none-found (λ kept. bytes_eq (name row) (name kept)) rows new))

  pub names-altered : (alter : R → R) → ((row : R) → name (alter row) ≡ name row) → (rows : List R) → map name (map alter rows) ≡ map name rows
  names-altered alter names [] = refl
  names-altered alter names (row ∷ rows) = λ i. names row i ∷ names-altered alter names rows i

module _ {R : Type 0} (key : R → ℕ) where
  -- an id of a longer list
  pub knows-push : (id : ℕ) (row : R) (rows : List R) → knows key id (rows ++ row ∷ []) ≡ (knows key id rows || has_id key id row)
  knows-push id row rows =
      list_any-append (has_id key id) rows (row ∷ []) ∙ ap (λ b. knows key id rows || b) (or_false (has_id key id row))

  -- an id is still known where its rows are kept, and where that of another is taken away
  pub knows-kept : (id : ℕ) (keep : R → Bool) (rows : List R) → AllByRecursion (λ row. key row ≡ id → keep row ≡ true) rows → knows key id rows ≡ true → knows key id (filter keep rows) ≡ true
  knows-kept id keep rows keeps known =
      any-kept (has_id key id) keep rows (each-weaken (λ row. key row ≡ id → keep row ≡ true) (λ row. has_id key id row ≡ true → keep row ≡ true) rows (λ row stays has. stays (sym (eqb-true id (key row) has))) keeps) known

  pub knows-others : (id gone : ℕ) (rows : List R) → not (nat_eq id gone) ≡ true → knows key id rows ≡ true → knows key id (filter (λ row. not (has_id key gone row)) rows) ≡ true
  knows-others id gone rows apart known =
      knows-kept id (λ row. not (has_id key gone row)) rows (each-all (λ row. key row ≡ id → not (nat_eq gone (key row)) ≡ true) rows (λ row is. ap (λ n. not (nat_eq gone n)) is ∙ (ap not (nat_eq_equiv.symm gone id) ∙ apart))) known

  -- a row with the next id goes last
  pub goes-last : (next_id : ℕ) (rows : List R) → AreNumbered key next_id rows → (row : R) → key row ≡ next_id → rows_with key row rows ≡ rows ++ row ∷ []
  goes-last next_id rows numbered row is =
      rows_with-new key row rows (ap (λ id. knows key id rows) is ∙ knows-below key next_id rows (below-next key next_id rows numbered))

pub map-each : {X Y : Type 0} (f g : X → Y) (xs : List X) → AllByRecursion (λ x. f x ≡ g x) xs → map f xs ≡ map g xs
map-each f g [] all = refl
map-each f g (x ∷ xs) all = λ i. all.0 i ∷ map-each f g xs all.1 i

-- facts of which one is put
module _ {T : Type 0} (code : Coded T) where
  same-equiv : IsEquivalence (same code)
  same-equiv = record {
    refl = same-refl code;
    symm = same-symmetric code;
    congr = λ x y z is. ap (λ one. same code one z) (same-true code x y is);
  }

  pub each-with : (P : T → Type 0) (fact : T) (facts : List T) → AllByRecursion P facts → P fact → AllByRecursion P (facts_with code fact facts)
  each-with P fact facts all here = elim (cases_Bool (holds code fact facts)) [
    | inl known ↦ subst (AllByRecursion P) (sym (facts_with-known code fact facts known)) all
    | inr new ↦ subst (AllByRecursion P) (sym (facts_with-new code fact facts new)) (each-push P facts fact all here)
  ]

  pub distinct-with : (fact : T) (facts : List T) → IsDistinct (same code) facts → IsDistinct (same code) (facts_with code fact facts)
  distinct-with fact facts differ = elim (cases_Bool (holds code fact facts)) [
    | inl known ↦ subst (IsDistinct (same code)) (sym (facts_with-known code fact facts known)) differ
    | inr new ↦ subst (IsDistinct (same code)) (sym (facts_with-new code fact facts new)) (IsDistinct-push same-equiv facts fact differ new)
  ]

  pub holds-with : (other fact : T) (facts : List T) → holds code other facts ≡ true → holds code other (facts_with code fact facts) ≡ true
  holds-with other fact facts there =
      holds-facts_with code other fact facts ∙ ap (λ b. same code other fact || b) there ∙ or_true (same code other fact)

  -- a fact is still held where a filter keeps it
  pub holds-kept : (keep : T → Bool) (fact : T) (facts : List T) → holds code fact facts ≡ true → keep fact ≡ true → holds code fact (filter keep facts) ≡ true
  holds-kept keep fact facts held stays = holds-filter code fact keep facts ∙ (λ i. stays i && held i)
