-- The rows of a table, found, put and taken.
use Rattle.std.proofs.Common.{◌≡◌, ℕ, Bool, true, false, not, cond, ◌||◌, List, [], ◌∷◌, ◌++◌, map, filter, Some, is_some, nat_eq, refl, sym, ap, subst, ◌∙◌, inl, inr, true≢false}
use Rattle.std.specs.List.{AllByRecursion}
use Rattle.std.proofs.lemmas.Bool.{cases_Bool, eqb-true}
use Rattle.std.proofs.lemmas.Map.Keys.{IsDistinct-cons, IsDistinct-head, IsDistinct-tail}
use Rattle.pol_tables.proofs.ListLemmas.{each-filter, each-map, each-weaken, filter-every, filter-none}
use Rattle.pol_tables.specs.Table.{has_id, knows, row_of, rows_with, IdsDiffer}

-- what two options hold is the same where they are
pub some_is : {A : Type 0} (left right : A) → Some left ≡ Some right → left ≡ right
some_is left right is = cc

module _ {R : Type 0} (key : R → ℕ) where
  -- an id is known exactly where it has a row
  pub is_some-row_of : (id : ℕ) (rows : List R) → is_some (row_of key id rows) ≡ knows key id rows
  is_some-row_of id [] = refl
  is_some-row_of id (row ∷ rows) =
      elim (has_id key id row) as (λ b. is_some (cond b (Some row) (row_of key id rows)) ≡ (b || knows key id rows)) [ true ↦ refl | false ↦ is_some-row_of id rows ]

  -- no row has the id
  abbrev pub Lacks : ℕ → List R → Type 0
  Lacks id rows = AllByRecursion (λ row. has_id key id row ≡ false) rows

  -- where no row has the id, a filter by the id keeps all
  pub filter-lacks : (id : ℕ) (rows : List R) → Lacks id rows → filter (λ row. not (has_id key id row)) rows ≡ rows
  filter-lacks id rows none =
      filter-every (λ row. not (has_id key id row)) rows (each-weaken (λ row. has_id key id row ≡ false) (λ row. not (has_id key id row) ≡ true) rows (λ row no_. ap not no_) none)

  -- and a replacement under the id changes none
  pub map-lacks : (id : ℕ) (new : R) (rows : List R) → Lacks id rows → map (λ row. cond (has_id key id row) new row) rows ≡ rows
  map-lacks id new [] none = refl
  map-lacks id new (row ∷ rows) none = rw none.0 (ap (λ kept. row ∷ kept) (map-lacks id new rows none.1))

  pub knows-lacks : (id : ℕ) (rows : List R) → Lacks id rows → knows key id rows ≡ false
  knows-lacks id [] none = refl
  knows-lacks id (row ∷ rows) none = rw none.0 (knows-lacks id rows none.1)

  lacks-ids : (id : ℕ) (rows : List R) → AllByRecursion (λ k. nat_eq id k ≡ false) (map key rows) → Lacks id rows
  lacks-ids id [] none = tt
  lacks-ids id (row ∷ rows) none = (none.0, lacks-ids id rows none.1)

  -- no row past the first has its id
  pub differ_head : (row : R) (rows : List R) → IdsDiffer key (row ∷ rows) → Lacks (key row) rows
  differ_head row rows differ = lacks-ids (key row) rows (IsDistinct-head nat_eq (key row) (map key rows) differ)

  -- past the row of an id, no row has it
  pub lacks_past : (id : ℕ) (row : R) (rows : List R) → IdsDiffer key (row ∷ rows) → has_id key id row ≡ true → Lacks id rows
  lacks_past id row rows differ here =
      subst (λ n. Lacks n rows) (sym (eqb-true id (key row) here)) (differ_head row rows differ)

  pub differ_past : (row : R) (rows : List R) → IdsDiffer key (row ∷ rows) → IdsDiffer key rows
  differ_past row rows differ = IsDistinct-tail nat_eq (key row) (map key rows) differ

  pub rows_with-known : (row : R) (rows : List R) → knows key (key row) rows ≡ true → rows_with key row rows ≡ map (λ kept. cond (has_id key (key row) kept) row kept) rows
  unfolding rows_with
  rows_with-known row rows known = rw known refl

  pub rows_with-new : (row : R) (rows : List R) → knows key (key row) rows ≡ false → rows_with key row rows ≡ rows ++ row ∷ []
  unfolding rows_with
  rows_with-new row rows new = rw new refl

  pub IdsDiffer-cons : (row : R) (rows : List R) → Lacks (key row) rows → IdsDiffer key rows → IdsDiffer key (row ∷ rows)
  IdsDiffer-cons row rows lacks differ = IsDistinct-cons nat_eq (key row) (map key rows) (each-map (λ id. nat_eq (key row) id ≡ false) key rows lacks) differ

  -- rows whose ids differ still do where some are left out
  pub IdsDiffer-filter : (keep : R → Bool) (rows : List R) → IdsDiffer key rows → IdsDiffer key (filter keep rows)
  IdsDiffer-filter keep [] differ = differ
  IdsDiffer-filter keep (row ∷ rows) differ =
      let rest = IdsDiffer-filter keep rows (differ_past row rows differ) in
      let lacks = each-filter (λ later. has_id key (key row) later ≡ false) keep rows (differ_head row rows differ) in
      elim (keep row) as (λ b. IdsDiffer key (cond b (row ∷ filter keep rows) (filter keep rows))) [
        | true ↦ IdsDiffer-cons row (filter keep rows) lacks rest
        | false ↦ rest
      ]

  -- altering rows under their own ids leaves the ids that are known
  pub knows-map : (alter : R → R) → ((row : R) → key (alter row) ≡ key row) → (id : ℕ) (rows : List R) → knows key id (map alter rows) ≡ knows key id rows
  knows-map alter keeps id [] = refl
  knows-map alter keeps id (row ∷ rows) = λ i. nat_eq id (keeps row i) || knows-map alter keeps id rows i

  -- the replacement of a row under its id
  abbrev pub replaced : R → R → R
  replaced new row = cond (has_id key (key new) row) new row

  -- putting a row that stands as it is changes nothing
  pub rows_with-same : (new : R) (rows : List R) → IdsDiffer key rows → row_of key (key new) rows ≡ Some new → map (replaced new) rows ≡ rows
  rows_with-same new [] differ found = refl
  rows_with-same new (row ∷ rows) differ found =
      let rest = rows_with-same new rows (differ_past row rows differ) in
      elim (cases_Bool (has_id key (key new) row)) [
        | inl here ↦
            let is : row ≡ new = some_is row new (sym (ap (λ b. cond b (Some row) (row_of key (key new) rows)) here) ∙ found) in
            rw here (λ i. sym is i ∷ map-lacks (key new) new rows (lacks_past (key new) row rows differ here) i)
        | inr apart ↦ rw apart (ap (λ kept. row ∷ kept) (rest (sym (ap (λ b. cond b (Some row) (row_of key (key new) rows)) apart) ∙ found)))
      ]

  -- the row of an id has it
  pub key-row_of : (id : ℕ) (row : R) (rows : List R) → row_of key id rows ≡ Some row → id ≡ key row
  key-row_of id row [] found = cc
  key-row_of id row (first ∷ rows) found =
      let rest = key-row_of id row rows in
      elim (cases_Bool (has_id key id first)) [
        | inl here ↦
            let is : first ≡ row = some_is first row (sym (ap (λ b. cond b (Some first) (row_of key id rows)) here) ∙ found) in
            eqb-true id (key first) here ∙ ap key is
        | inr apart ↦ rest (sym (ap (λ b. cond b (Some first) (row_of key id rows)) apart) ∙ found)
      ]

  -- where ids differ, the row of an id is the only one that has it
  pub filter-only : (id : ℕ) (row : R) (rows : List R) → IdsDiffer key rows → row_of key id rows ≡ Some row → filter (λ kept. not (not (has_id key id kept))) rows ≡ row ∷ []
  filter-only id row [] differ found = cc
  filter-only id row (first ∷ rows) differ found =
      let rest = filter-only id row rows (differ_past first rows differ) in
      elim (cases_Bool (has_id key id first)) [
        | inl here ↦
            let is : first ≡ row = some_is first row (sym (ap (λ b. cond b (Some first) (row_of key id rows)) here) ∙ found) in
            rw here (λ i. is i ∷ none (lacks_past id first rows differ here) i)
        | inr apart ↦ rw apart (rest (sym (ap (λ b. cond b (Some first) (row_of key id rows)) apart) ∙ found))
      ]
    where
      none : Lacks id rows → filter (λ kept. not (not (has_id key id kept))) rows ≡ []
      none lacks = filter-none (λ kept. not (not (has_id key id kept))) rows (each-weaken (λ kept. has_id key id kept ≡ false) (λ kept. not (not (has_id key id kept)) ≡ false) rows (λ kept other. ap (λ b. not (not b)) other) lacks)

  -- where no row is found, none has the id
  pub lacks-unknown : (id : ℕ) (rows : List R) → knows key id rows ≡ false → Lacks id rows
  lacks-unknown id [] unknown = tt
  lacks-unknown id (row ∷ rows) unknown = elim (cases_Bool (has_id key id row)) [
    | inl here ↦ absurd (true≢false (sym (ap (λ b. b || knows key id rows) here) ∙ unknown))
    | inr other ↦ (other, lacks-unknown id rows (sym (ap (λ b. b || knows key id rows) other) ∙ unknown))
  ]
