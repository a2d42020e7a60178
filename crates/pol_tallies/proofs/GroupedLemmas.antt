-- How many rows belong to each group, once a row is put or taken away.
use Rattle.std.proofs.Common.{◌≡◌, ℕ, ◌+◌, ◌-◌, ◌*◌, ◌^◌, ◌≤◌, ◌<◌, suc, zero, Bool, true, false, not, cond, ◌||◌, List, [], ◌∷◌, length, map, filter, Option, nat_eq, nat_lt, refl, sym, ap, ◌∙◌, inl, inr, true≢false, arith}
use Rattle.std.specs.Cmp.{nat_eq_equiv}
use Rattle.std.specs.Map.{lookup}
use Rattle.std.specs.Option.{unwrap_or}
use Rattle.std.proofs.Math.Nat.{suc-mul}
use Rattle.std.proofs.lemmas.Nat.{mul-le}
use Rattle.std.specs.List.{list_any, sum_by, AllByRecursion}
use Rattle.std.proofs.lemmas.Bool.{cases_Bool}
use Rattle.std.proofs.lemmas.List.Sums.{sum_by-cons, count_by-le-length, sum_by_push}
use Rattle.pol_tables.specs.Table.{has_id, knows, row_of, rows_with, rows_without, IdsDiffer}
use Rattle.pol_tables.proofs.ListLemmas.{or_false}
use Rattle.pol_tables.proofs.NamedLemmas.{each-rows_with, each-rows_without, find-none}
use Rattle.pol_tables.proofs.TableLemmas.{differ_past, filter-lacks, lacks_past, lacks-unknown, map-lacks, rows_with-known, rows_with-new}
use Rattle.pol_tallies.specs.Grouped.{is_of, times, times_in, times_of, AreTallied}
use Rattle.pol_tallies.specs.Tally.{TallyValue, count_of}

-- a sum is above 0 where an item's part is
above_either : (a b : ℕ) → nat_lt 0 (a + b) ≡ (nat_lt 0 a || nat_lt 0 b)
above_either a b = grind arith

any_above : {X : Type 0} (part : X → ℕ) (test : X → Bool) → ((x : X) → nat_lt 0 (part x) ≡ test x) → (xs : List X) → nat_lt 0 (sum_by part xs) ≡ list_any test xs
any_above part test alike [] = refl
any_above part test alike (x ∷ xs) =
    ap (nat_lt 0) (sum_by-cons part x xs)
    ∙ above_either (part x) (sum_by part xs)
    ∙ (λ i. alike x i || any_above part test alike xs i)

one_above : (b : Bool) → nat_lt 0 (cond b 1 0) ≡ b
one_above true = refl
one_above false = refl

-- a group has a row exactly where its times are above 0
pub any_of-above : {R : Type 0} (groups : R → List ℕ) (group : ℕ) (rows : List R) → nat_lt 0 (times_in groups group rows) ≡ list_any (is_of groups group) rows
any_of-above groups group rows =
    any_above (λ row. times group (groups row)) (is_of groups group) (λ row. any_above (λ n. cond (nat_eq group n) 1 0) (nat_eq group) (λ n. one_above (nat_eq group n)) (groups row)) rows

-- where each row belongs to one group, a row belongs to it
pub any_of_one : {R : Type 0} (group_of : R → ℕ) (group : ℕ) (rows : List R) → list_any (is_of (λ row. group_of row ∷ []) group) rows ≡ list_any (λ row. nat_eq (group_of row) group) rows
any_of_one group_of group [] = refl
any_of_one group_of group (row ∷ rows) =
    λ i. (or_false (nat_eq group (group_of row)) ∙ nat_eq_equiv.symm group (group_of row)) i || any_of_one group_of group rows i

module _ {R : Type 0} (key : R → ℕ) (groups : R → List ℕ) (group : ℕ) where
  abbrev part : R → ℕ
  part row = times group (groups row)

  abbrev part_of : Option R → ℕ
  part_of found = times_of groups group found

  total_cons : (row : R) (rows : List R) → times_in groups group (row ∷ rows) ≡ part row + times_in groups group rows
  total_cons row rows = sum_by-cons part row rows

  -- a row that is taken takes its own part along
  total_taken : (id : ℕ) (rows : List R) → IdsDiffer key rows → times_in groups group (rows_without key id rows) + part_of (row_of key id rows) ≡ times_in groups group rows
  unfolding rows_without
  total_taken id [] differ = omega arith
  total_taken id (row ∷ rows) differ =
      let rest = total_taken id rows (differ_past key row rows differ) in
      let whole = total_cons row rows in
      elim (cases_Bool (has_id key id row)) [
        | inl here ↦
            let same = ap (times_in groups group) (filter-lacks key id rows (lacks_past key id row rows differ here)) in
            rw here (omega (arith, same, whole))
        | inr apart ↦
            rw apart (omega (arith, rest, whole, total_cons row (filter (λ kept. not (has_id key id kept)) rows)))
      ]

  -- a row in the place of another brings its own part, and takes that one's along
  total_replaced : (new : R) (rows : List R) → IdsDiffer key rows → knows key (key new) rows ≡ true → times_in groups group (map (λ kept. cond (has_id key (key new) kept) new kept) rows) + part_of (row_of key (key new) rows) ≡ times_in groups group rows + part new
  total_replaced new [] differ known = absurd (true≢false (sym known))
  total_replaced new (row ∷ rows) differ known =
      let rest = total_replaced new rows (differ_past key row rows differ) in
      let whole = total_cons row rows in
      elim (cases_Bool (has_id key (key new) row)) [
        | inl here ↦
            let same = ap (times_in groups group) (map-lacks key (key new) new rows (lacks_past key (key new) row rows differ here)) in
            rw here (omega (arith, same, whole, total_cons new (map (λ kept. cond (has_id key (key new) kept) new kept) rows)))
        | inr apart ↦
            let later = rest (sym (ap (λ b. b || knows key (key new) rows) apart) ∙ known) in
            rw apart (omega (arith, later, whole, total_cons row (map (λ kept. cond (has_id key (key new) kept) new kept) rows)))
      ]

  total_put : (new : R) (rows : List R) → IdsDiffer key rows → times_in groups group (rows_with key new rows) + part_of (row_of key (key new) rows) ≡ times_in groups group rows + part new
  total_put new rows differ = elim (cases_Bool (knows key (key new) rows)) [
    | inl known ↦ rw (rows_with-known key new rows known) (total_replaced new rows differ known)
    | inr unknown ↦
        let none = ap part_of (find-none (has_id key (key new)) rows (lacks-unknown key (key new) rows unknown)) in
        rw (rows_with-new key new rows unknown) (omega (arith, none, sum_by_push part rows new))
  ]

module _ {R : Type 0} (groups : R → List ℕ) (most : ℕ) where
  total_few : (group : ℕ) (rows : List R) → AllByRecursion (λ row. length (groups row) ≤ most) rows → times_in groups group rows ≤ length rows * most
  total_few group [] few = omega arith
  total_few group (row ∷ rows) few =
      let rest = total_few group rows few.1 in
      let first = few.0 in
      let here = count_by-le-length (nat_eq group) (groups row) in
      let whole = sum_by-cons (λ (one : R). times group (groups one)) row rows in
      let longer = suc-mul (length rows) most in
      omega (arith, rest, first, here, whole, longer)

  -- counts that are alike serve alike
  pub tallied_alike : (rows : List R) (tally later : TallyValue) → ((group : ℕ) → count_of group later ≡ count_of group tally) → AreTallied groups most tally rows → AreTallied groups most later rows
  tallied_alike rows tally later alike tallied = record {
    counts = λ group. alike group ∙ tallied.counts group;
    few = tallied.few;
  }

  -- so few groups of so few rows, and those of one row more, can be counted
  pub tallied_fits : (rows : List R) (tally : TallyValue) (group : ℕ) → AreTallied groups most tally rows → length rows < 2 ^ 64 → most < 2 ^ 64 → count_of group tally + most < 2 ^ 128
  tallied_fits rows tally group tallied short small =
      let counted = tallied.counts group in
      let total = total_few group rows tallied.few in
      let product = mul-le (length rows) most (2 ^ 64 - 1) (2 ^ 64 - 1) (omega (arith, short)) (omega (arith, small)) in
      omega (arith, counted, total, product, small)

module _ {R : Type 0} (key : R → ℕ) (groups : R → List ℕ) (most : ℕ) where
  -- a row is taken once its groups are forgotten
  pub tallied_taken : (id : ℕ) (rows : List R) (tally later : TallyValue) → IdsDiffer key rows → AreTallied groups most tally rows
      → ((group : ℕ) → count_of group later ≡ count_of group tally - times_of groups group (row_of key id rows))
      → AreTallied groups most later (rows_without key id rows)
  tallied_taken id rows tally later differ tallied forgets = record {
    counts = λ group. let total = total_taken key groups group id rows differ in omega (arith, total, forgets group, tallied.counts group);
    few = each-rows_without key (λ row. length (groups row) ≤ most) (λ row. length (groups row) ≤ most) id rows tallied.few (λ row few apart. few);
  }

  -- a row is put once the groups of the one in its place are forgotten, and its own are noted
  pub tallied_put : (row : R) (rows : List R) (tally forgotten later : TallyValue) → IdsDiffer key rows → AreTallied groups most tally rows → length (groups row) ≤ most
      → ((group : ℕ) → count_of group forgotten ≡ count_of group tally - times_of groups group (row_of key (key row) rows))
      → ((group : ℕ) → count_of group later ≡ count_of group forgotten + times group (groups row))
      → AreTallied groups most later (rows_with key row rows)
  tallied_put row rows tally forgotten later differ tallied few forgets notes = record {
    counts = λ group.
        let total = total_put key groups group row rows differ in
        let within = total_taken key groups group (key row) rows differ in
        omega (arith, total, within, forgets group, notes group, tallied.counts group);
    few = each-rows_with key (λ kept. length (groups kept) ≤ most) (λ kept. length (groups kept) ≤ most) row rows tallied.few (λ kept here apart. here) few;
  }

-- the room for one row fewer
pub one_fewer : (rows most : ℕ) → 0 < rows → (rows - 1) * most + most ≡ rows * most
one_fewer zero most some = omega (arith, some)
one_fewer (suc rows) most some = let less : suc rows - 1 ≡ rows = omega arith in rw less (sym (suc-mul rows most))
