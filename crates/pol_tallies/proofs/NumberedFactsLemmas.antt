-- Facts as rows under numbers of their own: found, put and taken.
use Rattle.std.proofs.Common.{◌≡◌, ℕ, ◌+◌, Bool, true, false, not, cond, ◌||◌, List, [], ◌∷◌, ◌++◌, map, filter, Option, Some, None, is_some, refl, sym, ap, subst, ◌∙◌, inl, inr, true≢false, arith}
use Rattle.std.specs.Cmp.{IsEquivalence}
use Rattle.std.specs.Coded.{Coded}
use Rattle.std.specs.List.{find, list_any, AllByRecursion, IsDistinct}
use Rattle.std.proofs.lemmas.Bool.{cases_Bool}
use Rattle.std.proofs.lemmas.List.{map-append}
use Rattle.std.proofs.lemmas.Map.Keys.{IsDistinct-cons, IsDistinct-head, IsDistinct-push, IsDistinct-tail}
use Rattle.pol_tables.specs.Facts.{holds, facts_with, facts_without}
use Rattle.pol_tables.specs.Named.{Finds}
use Rattle.pol_tables.specs.Rising.{KeysBelow, KeysRise}
use Rattle.pol_tables.specs.Same.{same}
use Rattle.pol_tables.specs.Table.{has_id, row_of, rows_with, rows_without, IdsDiffer}
use Rattle.pol_tables.proofs.FactsLemmas.{facts_with-new, filter-lacks}
use Rattle.pol_tables.proofs.ListLemmas.{each-filter, each-map}
use Rattle.pol_tables.proofs.RisingLemmas.{IdsDiffer-rising, KeysBelow-filter, KeysBelow-more, KeysBelow-push, KeysRise-filter, KeysRise-push, knows-below}
use Rattle.pol_tables.proofs.SameLemmas.{same-refl, same-symmetric, same-true}
use Rattle.pol_tables.proofs.TableLemmas.{differ_past, lacks_past, rows_with-new, some_is}
use Rattle.pol_tables.proofs.TableLemmas as rows
use Rattle.pol_tallies.specs.NumberedFacts.{AreNumberedFacts}

module _ {X : Type 0} (test : X → Bool) where
  first_is : (x first : X) (xs : List X) → find test (first ∷ xs) ≡ Some x → test first ≡ true → first ≡ x
  first_is x first xs found here = some_is first x (sym (ap (λ b. cond b (Some first) (find test xs)) here) ∙ found)

  found_later : (x first : X) (xs : List X) → find test (first ∷ xs) ≡ Some x → test first ≡ false → find test xs ≡ Some x
  found_later x first xs found apart = sym (ap (λ b. cond b (Some first) (find test xs)) apart) ∙ found

  -- what holds of each item holds of the one that is found
  each-found : (P : X → Type 0) (x : X) (xs : List X) → find test xs ≡ Some x → AllByRecursion P xs → P x
  each-found P x [] found all = cc
  each-found P x (first ∷ xs) found all = elim (cases_Bool (test first)) [
    | inl here ↦ subst P (first_is x first xs found here) all.0
    | inr apart ↦ each-found P x xs (found_later x first xs found apart) all.1
  ]

  -- an item passes a test where one is found
  any-find : (xs : List X) → is_some (find test xs) ≡ list_any test xs
  any-find [] = refl
  any-find (x ∷ xs) =
      elim (test x) as (λ b. is_some (cond b (Some x) (find test xs)) ≡ (b || list_any test xs)) [ true ↦ refl | false ↦ any-find xs ]

  -- each item fails a test that none passes
  each-fails : (xs : List X) → list_any test xs ≡ false → AllByRecursion (λ x. test x ≡ false) xs
  each-fails [] none = tt
  each-fails (x ∷ xs) none = elim (cases_Bool (test x)) [
    | inl here ↦ absurd (true≢false (sym (ap (λ b. b || list_any test xs) here) ∙ none))
    | inr other ↦ (other, each-fails xs (sym (ap (λ b. b || list_any test xs) other) ∙ none))
  ]

-- an item passes a test also where one that passes is found by another
any-found : {X : Type 0} (test other : X → Bool) (x : X) (xs : List X) → find other xs ≡ Some x → test x ≡ true → list_any test xs ≡ true
any-found test other x xs found passes = elim (cases_Bool (list_any test xs)) [
  | inl some ↦ some
  | inr none ↦ absurd (true≢false (sym passes ∙ each-found other (λ one. test one ≡ false) x xs found (each-fails test xs none)))
]

module _ {X Y : Type 0} (f : X → Y) where
  any-map : (test : Y → Bool) (xs : List X) → list_any test (map f xs) ≡ list_any (λ x. test (f x)) xs
  any-map test [] = refl
  any-map test (x ∷ xs) = ap (λ later. test (f x) || later) (any-map test xs)

  -- what holds of each image
  each-image : (P : Y → Type 0) (xs : List X) → AllByRecursion P (map f xs) → AllByRecursion (λ x. P (f x)) xs
  each-image P [] all = tt
  each-image P (x ∷ xs) all = (all.0, each-image P xs all.1)

module _ {R T : Type 0} (number : R → ℕ) (fact_of : R → T) (code : Coded T) where
  abbrev facts_of : List R → List T
  facts_of kept = map fact_of kept

  abbrev Apart : T → T → Type 0
  Apart fact other = same code fact other ≡ false

  abbrev Differ : List T → Type 0
  Differ facts = IsDistinct (same code) facts

  abbrev Numbered : ℕ → List R → Type 0
  Numbered next kept = AreNumberedFacts number fact_of code next kept

  same-equivalence : IsEquivalence (same code)
  same-equivalence = record {
    refl = same-refl code;
    symm = same-symmetric code;
    congr = λ one other third is. ap (λ fact. same code fact third) (same-true code one other is);
  }

  -- the facts of some of the rows differ
  differ-filter : (keep : R → Bool) (kept : List R) → Differ (facts_of kept) → Differ (facts_of (filter keep kept))
  differ-filter keep [] differ = differ
  differ-filter keep (row ∷ kept) differ =
      let rest = differ-filter keep kept (IsDistinct-tail (same code) (fact_of row) (facts_of kept) differ) in
      let apart = each-image fact_of (Apart (fact_of row)) kept (IsDistinct-head (same code) (fact_of row) (facts_of kept) differ) in
      let still = each-map (Apart (fact_of row)) fact_of (filter keep kept) (each-filter (λ other. Apart (fact_of row) (fact_of other)) keep kept apart) in
      elim (keep row) as (λ b. Differ (facts_of (cond b (row ∷ filter keep kept) (filter keep kept)))) [
        | true ↦ IsDistinct-cons (same code) (fact_of row) (facts_of (filter keep kept)) still rest
        | false ↦ rest
      ]

  pub numbered-nil : (next : ℕ) → Numbered next []
  unfolding KeysRise IsDistinct
  numbered-nil next = record { below = tt; rise = tt; differ = tt }

  pub numbered-take : (next id : ℕ) (kept : List R) → Numbered next kept → Numbered next (rows_without number id kept)
  unfolding rows_without
  numbered-take next id kept numbered =
      let stays = λ (row : R). not (has_id number id row) in
      record {
        below = KeysBelow-filter number next stays kept numbered.below;
        rise = KeysRise-filter number stays kept numbered.rise;
        differ = differ-filter stays kept numbered.differ;
      }

  -- a new fact under the next number goes last
  module _ (next : ℕ) (kept : List R) (numbered : Numbered next kept) (row : R) (is_next : number row ≡ next) (new : holds code (fact_of row) (facts_of kept) ≡ false) where
    above : KeysBelow number (number row) kept
    above = subst (λ n. KeysBelow number n kept) (sym is_next) numbered.below

    goes_last : rows_with number row kept ≡ kept ++ row ∷ []
    goes_last = rows_with-new number row kept (knows-below number (number row) kept above)

    facts_pushed : facts_of (kept ++ row ∷ []) ≡ facts_of kept ++ fact_of row ∷ []
    facts_pushed = map-append fact_of kept (row ∷ [])

    pub numbered-put : Numbered (next + 1) (rows_with number row kept)
    numbered-put = subst (Numbered (next + 1)) (sym goes_last) (record {
      below = KeysBelow-push number (next + 1) row kept (KeysBelow-more number next (next + 1) kept (omega arith) numbered.below) (omega (arith, is_next));
      rise = KeysRise-push number row kept numbered.rise above;
      differ = subst Differ (sym facts_pushed) (IsDistinct-push same-equivalence (facts_of kept) (fact_of row) numbered.differ new);
    })

    pub facts-put : facts_of (rows_with number row kept) ≡ facts_with code (fact_of row) (facts_of kept)
    facts-put = ap facts_of goes_last ∙ facts_pushed ∙ sym (facts_with-new code (fact_of row) (facts_of kept) new)

  module _ (fact : T) where
    abbrev has : R → Bool
    has row = same code fact (fact_of row)

    -- a fact is held exactly where its row is found
    pub holds-found : (kept : List R) (found : Option R) → Finds number has kept found → is_some found ≡ holds code fact (facts_of kept)
    holds-found kept None none =
        sym (any-map fact_of (same code fact) kept ∙ sym (any-find has kept) ∙ ap is_some none)
    holds-found kept (Some row) found =
        sym (any-map fact_of (same code fact) kept ∙ any-found has (has_id number (number row)) row kept found.0 found.1)

    -- a fact whose row is not found takes none along
    pub facts-lack : (kept : List R) → Finds number has kept None → facts_of kept ≡ facts_without code fact (facts_of kept)
    unfolding facts_without
    facts-lack kept none =
        sym (filter-lacks code fact (facts_of kept) (each-fails (same code fact) (facts_of kept) (sym (holds-found kept None none))))

    -- where the row of an id has the fact, all other rows have others
    facts-left : (row : R) (id : ℕ) (kept : List R) → IdsDiffer number kept → Differ (facts_of kept) → row_of number id kept ≡ Some row → has row ≡ true
        → facts_of (filter (λ one. not (has_id number id one)) kept) ≡ filter (λ one. not (same code fact one)) (facts_of kept)
    facts-left row id [] ids differ found is = refl
    facts-left row id (first ∷ kept) ids differ found is =
        let apart_first = IsDistinct-head (same code) (fact_of first) (facts_of kept) differ in
        elim (cases_Bool (has_id number id first)) [
          | inl here ↦
              let is_here = ap has (first_is (has_id number id) row first kept found here) ∙ is in
              let apart = subst (λ one. AllByRecursion (Apart one) (facts_of kept)) (sym (same-true code fact (fact_of first) is_here)) apart_first in
              rw here (rw is_here (ap facts_of (rows.filter-lacks number id kept (lacks_past number id first kept ids here)) ∙ sym (filter-lacks code fact (facts_of kept) apart)))
          | inr away ↦
              let later = found_later (has_id number id) row first kept found away in
              let rest = facts-left row id kept (differ_past number first kept ids) (IsDistinct-tail (same code) (fact_of first) (facts_of kept) differ) later is in
              let from_first = each-found (has_id number id) (λ one. Apart (fact_of first) (fact_of one)) row kept later (each-image fact_of (Apart (fact_of first)) kept apart_first) in
              let other : has first ≡ false = ap (λ one. same code one (fact_of first)) (same-true code fact (fact_of row) is) ∙ same-symmetric code (fact_of row) (fact_of first) ∙ from_first in
              rw away (rw other (ap (λ facts. fact_of first ∷ facts) rest))
        ]

    -- once the row of a fact is taken, the fact is
    pub facts-take : (row : R) (next : ℕ) (kept : List R) → Numbered next kept → Finds number has kept (Some row) → facts_of (rows_without number (number row) kept) ≡ facts_without code fact (facts_of kept)
    unfolding rows_without facts_without
    facts-take row next kept numbered found =
        facts-left row (number row) kept (IdsDiffer-rising number kept numbered.rise) numbered.differ found.0 found.1
