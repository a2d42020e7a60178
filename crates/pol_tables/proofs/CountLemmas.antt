-- How many rows a table has by its changes, and facts a set; and whether a row passes a test by the rows that are put.
use Rattle.std.proofs.Common.{◌≡◌, ℕ, ◌+◌, Bool, true, false, not, cond, ◌||◌, List, [], ◌∷◌, ◌++◌, map, filter, length, nat_eq, refl, sym, ap, ◌∙◌, inl, inr, true≢false, arith}
use Rattle.std.specs.Coded.{Coded}
use Rattle.std.specs.List.{count_by, list_any, AllByRecursion, IsDistinct}
use Rattle.std.specs.Ordering.{is_lt}
use Rattle.std.specs.declared.cmp.Ordering.{Ordering}
use Rattle.std.proofs.lemmas.Bool.{cases_Bool, eqb-true, eq-eqb, ne_eqb, or_parts}
use Rattle.std.proofs.lemmas.List.Filters.{length-filter_both}
use Rattle.std.proofs.lemmas.List.Folds.{list_any-append}
use Rattle.std.proofs.lemmas.List.Sums.{length-filter, sum_by-append, sum_by-cons}
use Rattle.std.proofs.lemmas.Map.Keys.{IsDistinct-head, IsDistinct-tail}
use Rattle.pol_tables.specs.Changes.{fact_changes, gone_ids, new_rows, table_changes}
use Rattle.pol_tables.specs.Facts.{holds}
use Rattle.pol_tables.specs.Order.{in_order, placed}
use Rattle.pol_tables.specs.Same.{same}
use Rattle.pol_tables.specs.Table.{IdsDiffer, knows}
use Rattle.pol_tables.proofs.ChangesLemmas.{holds-unknown}
use Rattle.pol_tables.proofs.ListLemmas.{each-all, each-append, each-map, each-weaken, or_false}
use Rattle.pol_tables.proofs.SameLemmas.{same-symmetric, same-true}
use Rattle.pol_tables.proofs.TableLemmas.{differ_head, differ_past}

-- one where it passes the test
abbrev one : {X : Type 0} → (X → Bool) → X → ℕ
one test x = cond (test x) 1 0

module _ {X : Type 0} (test : X → Bool) where
  -- of items that all fail a test, none passes
  pub count-none : (xs : List X) → AllByRecursion (λ x. test x ≡ false) xs → count_by test xs ≡ 0
  count-none [] none = refl
  count-none (x ∷ xs) none =
      let here : one test x ≡ 0 = ap (λ b. cond b 1 0) none.0 in
      omega (arith, sum_by-cons (one test) x xs, here, count-none xs none.1)

  pub any-none : (xs : List X) → AllByRecursion (λ x. test x ≡ false) xs → list_any test xs ≡ false
  any-none [] none = refl
  any-none (x ∷ xs) none = rw none.0 (any-none xs none.1)

  -- of items that all pass it, each does
  count-each : (xs : List X) → AllByRecursion (λ x. test x ≡ true) xs → count_by test xs ≡ length xs
  count-each [] each = refl
  count-each (x ∷ xs) each =
      let here : one test x ≡ 1 = ap (λ b. cond b 1 0) each.0 in
      let rest : count_by test xs ≡ length xs = count-each xs each.1 in
      omega (arith, sum_by-cons (one test) x xs, here, rest)

  count-map : {Y : Type 0} (f : Y → X) (ys : List Y) → count_by test (map f ys) ≡ count_by (λ y. test (f y)) ys
  count-map f [] = refl
  count-map f (y ∷ ys) =
      omega (arith, sum_by-cons (one test) (f y) (map f ys), sum_by-cons (one (λ y. test (f y))) y ys, count-map f ys)

  any-map : {Y : Type 0} (f : Y → X) (ys : List Y) → list_any test (map f ys) ≡ list_any (λ y. test (f y)) ys
  any-map f [] = refl
  any-map f (y ∷ ys) = ap (λ later. test (f y) || later) (any-map f ys)

  -- where all items of one part fail it
  count-first : (xs ys : List X) → AllByRecursion (λ x. test x ≡ false) ys → count_by test (xs ++ ys) ≡ count_by test xs
  count-first xs ys none = omega (arith, sum_by-append (one test) xs ys, count-none ys none)

  count-last : (xs ys : List X) → AllByRecursion (λ x. test x ≡ false) xs → count_by test (xs ++ ys) ≡ count_by test ys
  count-last xs ys none = omega (arith, sum_by-append (one test) xs ys, count-none xs none)

  -- those that pass the test and those that fail it
  count-both : (xs : List X) → count_by test xs + count_by (λ x. not (test x)) xs ≡ length xs
  count-both xs =
      omega (arith, length-filter_both test (λ x. not (test x)) (λ x. refl) xs, length-filter test xs, length-filter (λ x. not (test x)) xs)

  -- a filter that leaves out only what fails the test
  count-filter : (keep : X → Bool) → ((x : X) → keep x ≡ false → test x ≡ false) → (xs : List X) → count_by test (filter keep xs) ≡ count_by test xs
  count-filter keep so [] = refl
  count-filter keep so (x ∷ xs) =
      let rest = count-filter keep so xs in
      by (keep x) refl rest ∙ sym (sum_by-cons (one test) x xs)
    where
      by : (b : Bool) → keep x ≡ b → count_by test (filter keep xs) ≡ count_by test xs → count_by test (cond b (x ∷ filter keep xs) (filter keep xs)) ≡ one test x + count_by test xs
      by true kept rest = sum_by-cons (one test) x (filter keep xs) ∙ ap (λ n. one test x + n) rest
      by false left rest =
          let none : one test x ≡ 0 = ap (λ b. cond b 1 0) (so x left) in
          omega (arith, none, rest)

  any-filter : (keep : X → Bool) (xs : List X) → AllByRecursion (λ x. keep x ≡ false → test x ≡ false) xs → list_any test (filter keep xs) ≡ list_any test xs
  any-filter keep [] so = refl
  any-filter keep (x ∷ xs) so = by (keep x) so.0 (any-filter keep xs so.1)
    where
      by : (b : Bool) → (b ≡ false → test x ≡ false) → list_any test (filter keep xs) ≡ list_any test xs → list_any test (cond b (x ∷ filter keep xs) (filter keep xs)) ≡ (test x || list_any test xs)
      by true so rest = ap (λ later. test x || later) rest
      by false so rest = rest ∙ ap (λ here. here || list_any test xs) (sym (so refl))

-- two lists whose items differ share as many, counted from either side
module _ {R : Type 0} (alike : R → R → Bool) (turned : (x y : R) → alike x y ≡ alike y x) (joined : (x y z : R) → alike x y ≡ true → alike x z ≡ alike y z) where
  abbrev among : List R → R → Bool
  among xs x = list_any (alike x) xs

  count-alike : (x : R) (xs : List R) → IsDistinct alike xs → count_by (alike x) xs ≡ one (among xs) x
  count-alike x [] differ = refl
  count-alike x (y ∷ ys) differ =
      sum_by-cons (one (alike x)) y ys ∙ by (alike x y) refl (count-alike x ys (IsDistinct-tail alike y ys differ))
    where
      by : (b : Bool) → alike x y ≡ b → count_by (alike x) ys ≡ one (among ys) x → cond b 1 0 + count_by (alike x) ys ≡ cond (b || among ys x) 1 0
      by true here rest =
          let apart = IsDistinct-head alike y ys differ in
          let none = count-none (alike x) ys (each-weaken (λ z. alike y z ≡ false) (λ z. alike x z ≡ false) ys (λ z other. joined x y z here ∙ other) apart) in
          omega (arith, none)
      by false other rest = omega (arith, rest)

  count-more : (x : R) (xs ys : List R) → among xs x ≡ false → count_by (among (x ∷ xs)) ys ≡ count_by (alike x) ys + count_by (among xs) ys
  count-more x xs [] none = refl
  count-more x xs (y ∷ ys) none =
      let rest = count-more x xs ys none in
      let here : one (among (x ∷ xs)) y ≡ one (alike x) y + one (among xs) y = by (alike y x) refl ∙ ap (λ b. cond b 1 0 + one (among xs) y) (turned y x) in
      omega (arith, sum_by-cons (one (among (x ∷ xs))) y ys, sum_by-cons (one (alike x)) y ys, sum_by-cons (one (among xs)) y ys, here, rest)
    where
      by : (b : Bool) → alike y x ≡ b → cond (b || among xs y) 1 0 ≡ cond b 1 0 + one (among xs) y
      by true is =
          let other : among xs y ≡ false = (λ i. list_any (λ z. joined y x z is i) xs) ∙ none in
          let zero : one (among xs) y ≡ 0 = ap (λ b. cond b 1 0) other in
          omega (arith, zero)
      by false is = omega arith

  count-shared : (xs ys : List R) → IsDistinct alike xs → IsDistinct alike ys → count_by (among xs) ys ≡ count_by (among ys) xs
  count-shared [] ys first second = count-none (λ y. false) ys (each-all (λ y. false ≡ false) ys (λ y. refl))
  count-shared (x ∷ xs) ys first second =
      let none = any-none (alike x) xs (IsDistinct-head alike x xs first) in
      omega (arith, count-more x xs ys none, count-alike x ys second, count-shared xs ys (IsDistinct-tail alike x xs first) second, sum_by-cons (one (among ys)) x xs)

  -- what a list has beside another makes up the difference of their lengths
  pub length-apart : (old new : List R) → IsDistinct alike old → IsDistinct alike new → length new + count_by (λ x. not (among new x)) old ≡ length old + count_by (λ x. not (among old x)) new
  length-apart old new first second =
      omega (arith, count-both (among new) old, count-both (among old) new, count-shared old new first second)

-- the rows of a table
module _ {R : Type 0} (key : R → ℕ) where
  abbrev same_id : R → R → Bool
  same_id row other = nat_eq (key row) (key other)

  id-turned : (row other : R) → same_id row other ≡ same_id other row
  id-turned row other = elim (cases_Bool (same_id row other)) [
    | inl is ↦ is ∙ sym (eq-eqb (key other) (key row) (sym (eqb-true (key row) (key other) is)))
    | inr apart ↦ apart ∙ sym (ne_eqb (key other) (key row) (λ is. true≢false (sym (eq-eqb (key row) (key other) (sym is)) ∙ apart)))
  ]

  id-joined : (row other third : R) → same_id row other ≡ true → same_id row third ≡ same_id other third
  id-joined row other third is = ap (λ id. nat_eq id (key third)) (eqb-true (key row) (key other) is)

  rows-distinct : (rows : List R) → IdsDiffer key rows → IsDistinct same_id rows
  unfolding IsDistinct
  rows-distinct [] differ = tt
  rows-distinct (row ∷ rows) differ = (differ_head key row rows differ, rows-distinct rows (differ_past key row rows differ))

  module _ (code : Coded R) {Change : Type 0} (put : R → Change) (drop : ℕ → Change) where
    -- what holds of each put and of each drop holds of each change
    pub table_changes-each : (P : Change → Type 0) (old new : List R) → ((row : R) → P (put row)) → ((id : ℕ) → P (drop id)) → AllByRecursion P (table_changes code key put drop old new)
    unfolding table_changes
    table_changes-each P old new puts drops =
        each-append P (map put (new_rows code old new)) (map drop (gone_ids key old new))
        (each-map P put (new_rows code old new) (each-all (λ row. P (put row)) (new_rows code old new) puts))
        (each-map P drop (gone_ids key old new) (each-all (λ id. P (drop id)) (gone_ids key old new) drops))

    -- how many rows there are: those that were there, with those that are put under new ids, without those that are dropped
    pub length-changed : (added dropped : Change → Bool) (old new : List R) → IdsDiffer key old → IdsDiffer key new
        → ((row : R) → added (put row) ≡ not (knows key (key row) old)) → ((id : ℕ) → added (drop id) ≡ false) → ((row : R) → dropped (put row) ≡ false) → ((id : ℕ) → dropped (drop id) ≡ true)
        → length new + count_by dropped (table_changes code key put drop old new) ≡ length old + count_by added (table_changes code key put drop old new)
    unfolding table_changes new_rows gone_ids
    length-changed added dropped old new first second added_put added_drop dropped_put dropped_drop =
        let fresh = new_rows code old new in
        let gone = gone_ids key old new in
        let unknown : R → Bool = λ row. not (knows key (key row) old) in
        let missing : R → Bool = λ row. not (knows key (key row) new) in
        let added_is : count_by added (map put fresh ++ map drop gone) ≡ count_by unknown new =
        count-first added (map put fresh) (map drop gone) (each-map (λ change. added change ≡ false) drop gone (each-all (λ id. added (drop id) ≡ false) gone added_drop))
        ∙ count-map added put fresh
        ∙ (λ i. count_by (λ row. added_put row i) fresh)
        ∙ count-filter unknown (λ row. not (holds code row old)) lost new in
        let dropped_is : count_by dropped (map put fresh ++ map drop gone) ≡ count_by missing old =
        count-last dropped (map put fresh) (map drop gone) (each-map (λ change. dropped change ≡ false) put fresh (each-all (λ row. dropped (put row) ≡ false) fresh dropped_put))
        ∙ count-map dropped drop gone
        ∙ (λ i. count_by (λ id. dropped_drop id i) gone)
        ∙ count-map (λ id. true) key (filter missing old)
        ∙ count-each (λ row. true) (filter missing old) (each-all (λ row. true ≡ true) (filter missing old) (λ row. refl))
        ∙ length-filter missing old in
        omega (arith, added_is, dropped_is, length-apart same_id id-turned id-joined old new (rows-distinct old first) (rows-distinct new second))
      where
        lost : (row : R) → not (holds code row old) ≡ false → not (knows key (key row) old) ≡ false
        lost row held = by (knows key (key row) old) refl
          where
            by : (b : Bool) → knows key (key row) old ≡ b → not b ≡ false
            by true known = refl
            by false unknown = absurd (true≢false (sym (ap not (holds-unknown code key row old unknown)) ∙ held))

    -- whether a row passes a test that none passed: where one that is put does
    pub any-changed : (test : R → Bool) (changed : Change → Bool) (old new : List R) → list_any test old ≡ false → ((row : R) → changed (put row) ≡ test row) → ((id : ℕ) → changed (drop id) ≡ false)
        → list_any changed (table_changes code key put drop old new) ≡ list_any test new
    unfolding table_changes new_rows
    any-changed test changed old new none changed_put changed_drop =
        let fresh = new_rows code old new in
        let gone = gone_ids key old new in
        list_any-append changed (map put fresh) (map drop gone)
        ∙ ap (λ b. list_any changed (map put fresh) || b) (any-none changed (map drop gone) (each-map (λ change. changed change ≡ false) drop gone (each-all (λ id. changed (drop id) ≡ false) gone changed_drop)))
        ∙ or_false (list_any changed (map put fresh))
        ∙ any-map changed put fresh
        ∙ (λ i. list_any (λ row. changed_put row i) fresh)
        ∙ any-filter test (λ row. not (holds code row old)) new (each-all (λ row. not (holds code row old) ≡ false → test row ≡ false) new lost)
      where
        passed : (row : R) (rows : List R) → holds code row rows ≡ true → list_any test rows ≡ false → test row ≡ false
        passed row [] held none = cc
        passed row (first ∷ rows) held none =
            let parts = or_parts (test first) (list_any test rows) none in
            by (same code row first) refl held parts.0 (λ later. passed row rows later parts.1)
          where
            by : (b : Bool) → same code row first ≡ b → (b || holds code row rows) ≡ true → test first ≡ false → (holds code row rows ≡ true → test row ≡ false) → test row ≡ false
            by true is held fails rest = ap test (same-true code row first is) ∙ fails
            by false apart held fails rest = rest held

        lost : (row : R) → not (holds code row old) ≡ false → test row ≡ false
        lost row held = by (holds code row old) refl held
          where
            by : (b : Bool) → holds code row old ≡ b → not b ≡ false → test row ≡ false
            by true there held = passed row old there none
            by false apart held = absurd (true≢false held)

-- the facts of a set
module _ {T : Type 0} (cmp : T → T → Ordering) where
  length-placed : (fact : T) (facts : List T) → length (placed cmp fact facts) ≡ length facts + 1
  unfolding placed
  length-placed fact [] = refl
  length-placed fact (next ∷ facts) = by (is_lt (cmp next fact)) (length-placed fact facts)
    where
      by : (b : Bool) → length (placed cmp fact facts) ≡ length facts + 1 → length (cond b (next ∷ placed cmp fact facts) (fact ∷ next ∷ facts)) ≡ length (next ∷ facts) + 1
      by true rest = omega (arith, rest)
      by false rest = omega arith

  length-in_order : (facts : List T) → length (in_order cmp facts) ≡ length facts
  unfolding in_order
  length-in_order [] = refl
  length-in_order (fact ∷ facts) =
      let rest : length (in_order cmp facts) ≡ length facts = length-in_order facts in
      omega (arith, length-placed fact (in_order cmp facts), rest)

  module _ (code : Coded T) {Change : Type 0} (put drop : T → Change) where
    pub fact_changes-each : (P : Change → Type 0) (old new : List T) → ((fact : T) → P (put fact)) → ((fact : T) → P (drop fact)) → AllByRecursion P (fact_changes code cmp put drop old new)
    unfolding fact_changes
    fact_changes-each P old new puts drops =
        let fresh = in_order cmp (new_rows code old new) in
        let gone = in_order cmp (new_rows code new old) in
        each-append P (map put fresh) (map drop gone) (each-map P put fresh (each-all (λ fact. P (put fact)) fresh puts)) (each-map P drop gone (each-all (λ fact. P (drop fact)) gone drops))

    -- how many facts there are: those that were there, with those that are put, without those that are dropped
    pub length-changed_facts : (added dropped : Change → Bool) (old new : List T) → IsDistinct (same code) old → IsDistinct (same code) new
        → ((fact : T) → added (put fact) ≡ true) → ((fact : T) → added (drop fact) ≡ false) → ((fact : T) → dropped (put fact) ≡ false) → ((fact : T) → dropped (drop fact) ≡ true)
        → length new + count_by dropped (fact_changes code cmp put drop old new) ≡ length old + count_by added (fact_changes code cmp put drop old new)
    unfolding fact_changes new_rows
    length-changed_facts added dropped old new first second added_put added_drop dropped_put dropped_drop =
        let fresh = in_order cmp (new_rows code old new) in
        let gone = in_order cmp (new_rows code new old) in
        let added_is : count_by added (map put fresh ++ map drop gone) ≡ count_by (λ fact. not (holds code fact old)) new =
        count-first added (map put fresh) (map drop gone) (each-map (λ change. added change ≡ false) drop gone (each-all (λ fact. added (drop fact) ≡ false) gone added_drop))
        ∙ all_new added put added_put old new in
        let dropped_is : count_by dropped (map put fresh ++ map drop gone) ≡ count_by (λ fact. not (holds code fact new)) old =
        count-last dropped (map put fresh) (map drop gone) (each-map (λ change. dropped change ≡ false) put fresh (each-all (λ fact. dropped (put fact) ≡ false) fresh dropped_put))
        ∙ all_new dropped drop dropped_drop new old in
        omega (arith, added_is, dropped_is, length-apart (same code) (same-symmetric code) joined old new first second)
      where
        joined : (x y z : T) → same code x y ≡ true → same code x z ≡ same code y z
        joined x y z is = ap (λ fact. same code fact z) (same-true code x y is)

        all_new : (test : Change → Bool) (make : T → Change) → ((fact : T) → test (make fact) ≡ true) → (known facts : List T) → count_by test (map make (in_order cmp (filter (λ fact. not (holds code fact known)) facts))) ≡ count_by (λ fact. not (holds code fact known)) facts
        all_new test make passes known facts =
            let fresh = filter (λ fact. not (holds code fact known)) facts in
            count-map test make (in_order cmp fresh)
            ∙ count-each (λ fact. test (make fact)) (in_order cmp fresh) (each-all (λ fact. test (make fact) ≡ true) (in_order cmp fresh) passes)
            ∙ length-in_order fresh
            ∙ length-filter (λ fact. not (holds code fact known)) facts
