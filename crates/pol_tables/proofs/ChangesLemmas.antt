-- The difference of two tables whose rows' ids differ: of equal ones, and after a push, a replacement and a filter.
use Rattle.std.proofs.Common.{◌≡◌, ℕ, Bool, true, false, not, cond, ◌||◌, List, [], ◌∷◌, ◌++◌, map, filter, Some, is_some, refl, sym, ap, subst, ◌∙◌, inl, inr, true≢false, append-nil}
use Rattle.std.specs.Coded.{Coded}
use Rattle.std.specs.List.{AllByRecursion}
use Rattle.std.proofs.lemmas.Bool.{cases_Bool, eq-eqb, ne_eqb}
use Rattle.std.proofs.lemmas.List.Elements.{filter-append}
use Rattle.pol_tables.specs.Same.{same}
use Rattle.pol_tables.specs.Table.{has_id, knows, row_of, rows_with, rows_without, IdsDiffer}
use Rattle.pol_tables.specs.Facts.{holds}
use Rattle.pol_tables.specs.Changes.{new_rows, gone_ids, table_changes}
use Rattle.pol_tables.proofs.ListLemmas.{or_false, or_true, each-filter, each-weaken, each-join, filter-every, filter-none, filter-alike}
use Rattle.pol_tables.proofs.SameLemmas.{same-refl, same-differ}
use Rattle.pol_tables.proofs.RisingLemmas.{key-replaced}
use Rattle.pol_tables.proofs.TableLemmas.{Lacks, replaced, is_some-row_of, knows-map, key-row_of, filter-only, rows_with-same, knows-lacks, differ_head, differ_past, lacks_past, rows_with-known, rows_with-new}

module _ {R : Type 0} (code : Coded R) where
  -- a row that stands first, and one that stands later
  pub holds-first : (row : R) (rows : List R) → holds code row (row ∷ rows) ≡ true
  holds-first row rows = rw (same-refl code row) refl

  pub holds-later : (row first : R) (rows : List R) → holds code row rows ≡ true → holds code row (first ∷ rows) ≡ true
  holds-later row first rows there = rw there (or_true (same code row first))

  -- a list holds each of its rows, whatever follows them
  pub each_held : (rows more : List R) → AllByRecursion (λ row. holds code row (rows ++ more) ≡ true) rows
  each_held [] more = tt
  each_held (row ∷ rows) more = (
    holds-first row (rows ++ more),
    each-weaken (λ kept. holds code kept (rows ++ more) ≡ true) (λ kept. holds code kept (row ∷ (rows ++ more)) ≡ true) rows (λ kept there. holds-later kept row (rows ++ more) there) (each_held rows more),
  )

  pub each_held_itself : (rows : List R) → AllByRecursion (λ row. holds code row rows ≡ true) rows
  each_held_itself rows = subst (λ all. AllByRecursion (λ row. holds code row all ≡ true) rows) (append-nil rows) (each_held rows [])

  -- where the old list holds each row of the new one, none is new
  pub new_rows-none : (old new : List R) → AllByRecursion (λ row. holds code row old ≡ true) new → new_rows code old new ≡ []
  unfolding new_rows
  new_rows-none old new held =
      filter-none (λ row. not (holds code row old)) new (each-weaken (λ row. holds code row old ≡ true) (λ row. not (holds code row old) ≡ false) new (λ row there. ap not there) held)

  -- where it holds none of them, each is new
  pub new_rows-all : (old new : List R) → AllByRecursion (λ row. holds code row old ≡ false) new → new_rows code old new ≡ new
  unfolding new_rows
  new_rows-all old new lacks =
      filter-every (λ row. not (holds code row old)) new (each-weaken (λ row. holds code row old ≡ false) (λ row. not (holds code row old) ≡ true) new (λ row there. ap not there) lacks)

  pub new_rows-itself : (rows : List R) → new_rows code rows rows ≡ []
  new_rows-itself rows = new_rows-none rows rows (each_held_itself rows)

  pub new_rows-filter : (keep : R → Bool) (rows : List R) → new_rows code rows (filter keep rows) ≡ []
  new_rows-filter keep rows =
      new_rows-none rows (filter keep rows) (each-filter (λ row. holds code row rows ≡ true) keep rows (each_held_itself rows))

  pub new_rows-append : (old more : List R) → AllByRecursion (λ row. holds code row old ≡ false) more → new_rows code old (old ++ more) ≡ more
  unfolding new_rows
  new_rows-append old more lacks =
      filter-append (λ row. not (holds code row old)) old more
      ∙ ap (λ kept. kept ++ filter (λ row. not (holds code row old)) more) (new_rows-itself old)
      ∙ new_rows-all old more lacks

  module _ (key : R → ℕ) where
    -- a row whose id is unknown isn't held
    pub holds-unknown : (row : R) (rows : List R) → knows key (key row) rows ≡ false → holds code row rows ≡ false
    holds-unknown row [] unknown = refl
    holds-unknown row (first ∷ rows) unknown = elim (cases_Bool (has_id key (key row) first)) [
      | inl here ↦ absurd (true≢false (sym (ap (λ b. b || knows key (key row) rows) here) ∙ unknown))
      | inr other ↦ rw (same-differ code row first (λ is. true≢false (sym (eq-eqb (key row) (key first) (ap key is)) ∙ other))) (holds-unknown row rows (sym (ap (λ b. b || knows key (key row) rows) other) ∙ unknown))
    ]

    -- a list knows the id of each of its rows, whatever follows them
    pub each_known : (rows more : List R) → AllByRecursion (λ row. knows key (key row) (rows ++ more) ≡ true) rows
    each_known [] more = tt
    each_known (row ∷ rows) more = (
      rw (eq-eqb (key row) (key row) refl) refl,
      each-weaken (λ kept. knows key (key kept) (rows ++ more) ≡ true) (λ kept. knows key (key kept) (row ∷ (rows ++ more)) ≡ true) rows (λ kept there. rw there (or_true (has_id key (key kept) row))) (each_known rows more),
    )

    -- where the new list knows each id of the old one, none is gone
    pub gone_ids-none : (old new : List R) → AllByRecursion (λ row. knows key (key row) new ≡ true) old → gone_ids key old new ≡ []
    unfolding gone_ids
    gone_ids-none old new known =
        ap (map key) (filter-none (λ row. not (knows key (key row) new)) old (each-weaken (λ row. knows key (key row) new ≡ true) (λ row. not (knows key (key row) new) ≡ false) old (λ row there. ap not there) known))

    pub gone_ids-append : (rows more : List R) → gone_ids key rows (rows ++ more) ≡ []
    gone_ids-append rows more = gone_ids-none rows (rows ++ more) (each_known rows more)

    pub gone_ids-itself : (rows : List R) → gone_ids key rows rows ≡ []
    gone_ids-itself rows = subst (λ all. gone_ids key rows all ≡ []) (append-nil rows) (gone_ids-append rows [])

    -- rows altered under their own ids
    module _ (alter : R → R) (keeps : (row : R) → key (alter row) ≡ key row) where
      pub gone_ids-map : (rows : List R) → gone_ids key rows (map alter rows) ≡ []
      gone_ids-map rows =
          gone_ids-none rows (map alter rows) (each-weaken (λ row. knows key (key row) rows ≡ true) (λ row. knows key (key row) (map alter rows) ≡ true) rows (λ row there. knows-map key alter keeps (key row) rows ∙ there) (subst (λ all. AllByRecursion (λ row. knows key (key row) all ≡ true) rows) (append-nil rows) (each_known rows [])))

      altered : (old rows : List R) → AllByRecursion (λ row. holds code (alter row) old ≡ same code (alter row) row) rows → filter (λ row. not (holds code row old)) (map alter rows) ≡ map alter (filter (λ row. not (same code (alter row) row)) rows)
      altered old [] held = refl
      altered old (row ∷ rows) held = rw held.0 (by (same code (alter row) row) (altered old rows held.1))
        where
          by : (b : Bool) → filter (λ row. not (holds code row old)) (map alter rows) ≡ map alter (filter (λ row. not (same code (alter row) row)) rows) → cond (not b) (alter row ∷ filter (λ row. not (holds code row old)) (map alter rows)) (filter (λ row. not (holds code row old)) (map alter rows)) ≡ map alter (cond (not b) (row ∷ filter (λ row. not (same code (alter row) row)) rows) (filter (λ row. not (same code (alter row) row)) rows))
          by true rest = rest
          by false rest = ap (λ kept. alter row ∷ kept) rest

    -- where ids differ, a row is held exactly where it is the one under its id
    pub each_alone : (rows : List R) → IdsDiffer key rows → AllByRecursion (λ row. (new : R) → key new ≡ key row → holds code new rows ≡ same code new row) rows
    each_alone [] differ = tt
    each_alone (first ∷ rows) differ = (
      λ new is. rw (holds-unknown new rows (knows-lacks key (key new) rows (subst (λ id. Lacks key id rows) (sym is) (differ_head key first rows differ)))) (or_false (same code new first)),
      each-join (λ row. has_id key (key first) row ≡ false) (λ row. (new : R) → key new ≡ key row → holds code new rows ≡ same code new row) (λ row. (new : R) → key new ≡ key row → holds code new (first ∷ rows) ≡ same code new row) rows
          (λ row other alone new is. rw (same-differ code new first (λ same_. true≢false (sym (eq-eqb (key first) (key row) (sym (ap key same_) ∙ is)) ∙ other))) (alone new is))
          (differ_head key first rows differ) (each_alone rows (differ_past key first rows differ)),
    )

    pub new_rows-map : (alter : R → R) → ((row : R) → key (alter row) ≡ key row) → (rows : List R) → IdsDiffer key rows → new_rows code rows (map alter rows) ≡ map alter (filter (λ row. not (same code (alter row) row)) rows)
    unfolding new_rows
    new_rows-map alter keeps rows differ =
        altered alter keeps rows rows (each-weaken (λ row. (new : R) → key new ≡ key row → holds code new rows ≡ same code new row) (λ row. holds code (alter row) rows ≡ same code (alter row) row) rows (λ row alone. alone (alter row) (keeps row)) (each_alone rows differ))

    -- where ids differ, a filter's result knows the ids of what it keeps
    pub each_kept : (keep : R → Bool) (rows : List R) → IdsDiffer key rows → AllByRecursion (λ row. knows key (key row) (filter keep rows) ≡ keep row) rows
    each_kept keep [] differ = tt
    each_kept keep (first ∷ rows) differ =
        let lacks = each-filter (λ row. has_id key (key first) row ≡ false) keep rows (differ_head key first rows differ) in (
          by (keep first) (knows-lacks key (key first) (filter keep rows) lacks),
          each-join (λ row. has_id key (key first) row ≡ false) (λ row. knows key (key row) (filter keep rows) ≡ keep row) (λ row. knows key (key row) (cond (keep first) (first ∷ filter keep rows) (filter keep rows)) ≡ keep row) rows
              (λ row other kept. later (keep first) row other kept)
              (differ_head key first rows differ) (each_kept keep rows (differ_past key first rows differ)),
        )
      where
        by : (b : Bool) → knows key (key first) (filter keep rows) ≡ false → knows key (key first) (cond b (first ∷ filter keep rows) (filter keep rows)) ≡ b
        by true unknown = rw (eq-eqb (key first) (key first) refl) refl
        by false unknown = unknown

        later : (b : Bool) (row : R) → has_id key (key first) row ≡ false → knows key (key row) (filter keep rows) ≡ keep row → knows key (key row) (cond b (first ∷ filter keep rows) (filter keep rows)) ≡ keep row
        later true row other kept = rw (ne_eqb (key row) (key first) (λ is. true≢false (sym (eq-eqb (key first) (key row) (sym is)) ∙ other))) kept
        later false row other kept = kept

    pub gone_ids-filter : (keep : R → Bool) (rows : List R) → IdsDiffer key rows → gone_ids key rows (filter keep rows) ≡ map key (filter (λ row. not (keep row)) rows)
    unfolding gone_ids
    gone_ids-filter keep rows differ =
        ap (map key) (filter-alike (λ row. not (knows key (key row) (filter keep rows))) (λ row. not (keep row)) rows (each-weaken (λ row. knows key (key row) (filter keep rows) ≡ keep row) (λ row. not (knows key (key row) (filter keep rows)) ≡ not (keep row)) rows (λ row kept. ap not kept) (each_kept keep rows differ)))

    -- a row of another id stays as it is
    pub replaced-other : (new row : R) → has_id key (key new) row ≡ false → same code (replaced key new row) row ≡ true
    replaced-other new row other = rw other (same-refl code row)

    pub altered-lacks : (new : R) (rows : List R) → Lacks key (key new) rows → filter (λ row. not (same code (replaced key new row) row)) rows ≡ []
    altered-lacks new rows lacks =
        filter-none (λ row. not (same code (replaced key new row) row)) rows (each-weaken (λ row. has_id key (key new) row ≡ false) (λ row. not (same code (replaced key new row) row) ≡ false) rows (λ row other. ap not (replaced-other new row other)) lacks)

    -- one row is altered: that of the id
    pub altered-one : (new old : R) (rows : List R) → IdsDiffer key rows → row_of key (key new) rows ≡ Some old → same code new old ≡ false → map (replaced key new) (filter (λ row. not (same code (replaced key new row) row)) rows) ≡ new ∷ []
    altered-one new old [] differ found other = cc
    altered-one new old (row ∷ rows) differ found other =
        let rest = altered-one new old rows (differ_past key row rows differ) in
        elim (cases_Bool (has_id key (key new) row)) [
          | inl here ↦
              let is : row ≡ old = some_is row old (sym (ap (λ b. cond b (Some row) (row_of key (key new) rows)) here) ∙ found) in
              rw here (rw (ap (same code new) is ∙ other) (rw (altered-lacks new rows (lacks_past key (key new) row rows differ here)) (rw here refl)))
          | inr apart ↦
              rw apart (rw (same-refl code row) (rest (sym (ap (λ b. cond b (Some row) (row_of key (key new) rows)) apart) ∙ found) other))
        ]
      where
        some_is : (left right : R) → Some left ≡ Some right → left ≡ right
        some_is left right is = cc

    module _ {Change : Type 0} (put : R → Change) (drop : ℕ → Change) where
      abbrev changes : List R → List R → List Change
      changes old new = table_changes code key put drop old new

      -- from what is new and what is gone
      changes-of : (old new kept : List R) (ids : List ℕ) → new_rows code old new ≡ kept → gone_ids key old new ≡ ids → changes old new ≡ map put kept ++ map drop ids
      unfolding table_changes
      changes-of old new kept ids fresh gone = λ i. map put (fresh i) ++ map drop (gone i)

      pub table_changes-itself : (rows : List R) → changes rows rows ≡ []
      table_changes-itself rows = changes-of rows rows [] [] (new_rows-itself rows) (gone_ids-itself rows)

      pub table_changes-append : (old more : List R) → AllByRecursion (λ row. knows key (key row) old ≡ false) more → changes old (old ++ more) ≡ map put more
      table_changes-append old more unknown =
          let lacks = each-weaken (λ row. knows key (key row) old ≡ false) (λ row. holds code row old ≡ false) more (λ row. holds-unknown row old) unknown in
          changes-of old (old ++ more) more [] (new_rows-append old more lacks) (gone_ids-append old more) ∙ append-nil (map put more)

      pub table_changes-map : (alter : R → R) → ((row : R) → key (alter row) ≡ key row) → (rows : List R) → IdsDiffer key rows → changes rows (map alter rows) ≡ map put (map alter (filter (λ row. not (same code (alter row) row)) rows))
      table_changes-map alter keeps rows differ =
          let kept = map alter (filter (λ row. not (same code (alter row) row)) rows) in
          changes-of rows (map alter rows) kept [] (new_rows-map alter keeps rows differ) (gone_ids-map alter keeps rows) ∙ append-nil (map put kept)

      pub table_changes-filter : (keep : R → Bool) (rows : List R) → IdsDiffer key rows → changes rows (filter keep rows) ≡ map drop (map key (filter (λ row. not (keep row)) rows))
      table_changes-filter keep rows differ =
          changes-of rows (filter keep rows) [] _ (new_rows-filter keep rows) (gone_ids-filter keep rows differ)

      -- a new id's row is put, and a known id's where it is altered
      pub table_changes-put_new : (row : R) (rows : List R) → knows key (key row) rows ≡ false → changes rows (rows_with key row rows) ≡ put row ∷ []
      table_changes-put_new row rows new =
          ap (changes rows) (rows_with-new key row rows new) ∙ table_changes-append rows (row ∷ []) (new, tt)

      known : (id : ℕ) (row : R) (rows : List R) → row_of key id rows ≡ Some row → knows key id rows ≡ true
      known id row rows found = sym (is_some-row_of key id rows) ∙ ap is_some found

      pub table_changes-put_altered : (row old : R) (rows : List R) → IdsDiffer key rows → row_of key (key row) rows ≡ Some old → same code row old ≡ false → changes rows (rows_with key row rows) ≡ put row ∷ []
      table_changes-put_altered row old rows differ found other =
          ap (changes rows) (rows_with-known key row rows (known (key row) old rows found))
          ∙ table_changes-map (replaced key row) (key-replaced key row) rows differ
          ∙ ap (map put) (altered-one row old rows differ found other)

      pub table_changes-put_same : (row : R) (rows : List R) → IdsDiffer key rows → row_of key (key row) rows ≡ Some row → changes rows (rows_with key row rows) ≡ []
      table_changes-put_same row rows differ found =
          ap (changes rows) (rows_with-known key row rows (known (key row) row rows found) ∙ rows_with-same key row rows differ found)
          ∙ table_changes-itself rows

      -- a row that is taken away is dropped
      pub table_changes-take : (id : ℕ) (row : R) (rows : List R) → IdsDiffer key rows → row_of key id rows ≡ Some row → changes rows (rows_without key id rows) ≡ drop id ∷ []
      unfolding rows_without
      table_changes-take id row rows differ found =
          table_changes-filter (λ kept. not (has_id key id kept)) rows differ
          ∙ ap (λ kept. map drop (map key kept)) (filter-only key id row rows differ found)
          ∙ ap (λ n. drop n ∷ []) (sym (key-row_of key id row rows found))
