-- Applying the changes between two tables to the old one gives the new one.
use Rattle.std.proofs.Common.{◌≡◌, ℕ, ◌<◌, Bool, true, false, not, cond, ◌||◌, ◌&&◌, List, [], ◌∷◌, ◌++◌, map, filter, Option, None, Some, is_some, nat_eq, refl, sym, ap, subst, ◌∙◌, inl, inr, true≢false, arith}
use Rattle.std.specs.Coded.{Coded}
use Rattle.std.specs.List.{list_any, fold}
use Rattle.std.proofs.lemmas.Bool.{cases_Bool, cases_order, eqb-true, eq-eqb, or_parts}
use Rattle.std.proofs.lemmas.List.Folds.{list_any-append}
use Rattle.std.proofs.lemmas.List.Sums.{fold-append}
use Rattle.pol_tables.specs.Same.{same}
use Rattle.pol_tables.specs.Table.{has_id, knows, row_of, rows_with, rows_without, IdsDiffer}
use Rattle.pol_tables.specs.Rising.{KeysBelow, KeysAbove, KeysRise}
use Rattle.pol_tables.specs.Facts.{holds}
use Rattle.pol_tables.specs.Changes.{new_rows, gone_ids, table_changes, NewAreAbove, ActsOnRows}
use Rattle.pol_tables.proofs.ListLemmas.{and_false, or_false, each-filter, each-join, each-weaken}
use Rattle.pol_tables.proofs.SameLemmas.{same-true, same-differ}
use Rattle.pol_tables.proofs.TableLemmas.{some_is, replaced, IdsDiffer-filter, knows-map, key-row_of, lacks-unknown, is_some-row_of, knows-lacks, differ_past, lacks_past, rows_with-known, rows_with-new}
use Rattle.pol_tables.proofs.RisingLemmas.{KeysBelow-map, KeysBelow-push, KeysRise-filter, KeysRise-rows_with, KeysRise-rows_without, IdsDiffer-rising, rise_head, rise_tail, key-replaced, knows-above}
use Rattle.pol_tables.proofs.ChangesLemmas.{holds-unknown}

none_unknown : {A : Type 0} (found : Option A) → is_some found ≡ false → found ≡ None
none_unknown None no_ = refl
none_unknown (Some x) no_ = cc

module _ {R : Type 0} (key : R → ℕ) where
  -- an unknown id has no row
  pub row_of-unknown : (id : ℕ) (rows : List R) → knows key id rows ≡ false → row_of key id rows ≡ None
  row_of-unknown id rows unknown = none_unknown (row_of key id rows) (is_some-row_of key id rows ∙ unknown)

  -- a replacement changes the row of its id and of no other
  row_of-replaced : (row : R) (rows : List R) → knows key (key row) rows ≡ true → row_of key (key row) (map (λ kept. cond (has_id key (key row) kept) row kept) rows) ≡ Some row
  row_of-replaced row [] known = cc
  row_of-replaced row (first ∷ rows) known =
      let rest = row_of-replaced row rows in
      elim (cases_Bool (has_id key (key row) first)) [
        | inl here ↦ rw here (rw (eq-eqb (key row) (key row) refl) refl)
        | inr other ↦ rw other (rw other (rest (sym (ap (λ b. b || knows key (key row) rows) other) ∙ known)))
      ]

  row_of-replaced_other : (id : ℕ) (row : R) (rows : List R) → nat_eq id (key row) ≡ false → row_of key id (map (λ kept. cond (has_id key (key row) kept) row kept) rows) ≡ row_of key id rows
  row_of-replaced_other id row [] apart = refl
  row_of-replaced_other id row (first ∷ rows) apart =
      let rest = row_of-replaced_other id row rows apart in
      elim (cases_Bool (has_id key (key row) first)) [
        | inl here ↦ rw here (rw (apart, sym (ap (nat_eq id) (eqb-true (key row) (key first) here)) ∙ apart) rest)
        | inr other ↦ rw other (ap (λ found. cond (has_id key id first) (Some first) found) rest)
      ]

  row_of-push : (id : ℕ) (row : R) (rows : List R) → knows key id rows ≡ false → row_of key id (rows ++ row ∷ []) ≡ cond (nat_eq id (key row)) (Some row) None
  row_of-push id row [] unknown = refl
  row_of-push id row (first ∷ rows) unknown =
      let parts = or_parts (has_id key id first) (knows key id rows) unknown in
      rw parts.0 (row_of-push id row rows parts.1)

  row_of-push_other : (id : ℕ) (row : R) (rows : List R) → nat_eq id (key row) ≡ false → row_of key id (rows ++ row ∷ []) ≡ row_of key id rows
  row_of-push_other id row [] apart = rw apart refl
  row_of-push_other id row (first ∷ rows) apart =
      ap (λ found. cond (has_id key id first) (Some first) found) (row_of-push_other id row rows apart)

  -- the rows once a row is put, as a map from ids
  pub row_of-rows_with : (id : ℕ) (row : R) (rows : List R) → row_of key id (rows_with key row rows) ≡ cond (nat_eq id (key row)) (Some row) (row_of key id rows)
  row_of-rows_with id row rows = elim (cases_Bool (knows key (key row) rows)) [
    | inl known ↦ rw (rows_with-known key row rows known) (elim (cases_Bool (nat_eq id (key row))) [
      | inl here ↦ rw here (ap (λ n. row_of key n (map (λ kept. cond (has_id key (key row) kept) row kept) rows)) (eqb-true id (key row) here) ∙ row_of-replaced row rows known)
      | inr apart ↦ rw apart (row_of-replaced_other id row rows apart)
    ])
    | inr new ↦ rw (rows_with-new key row rows new) (elim (cases_Bool (nat_eq id (key row))) [
      | inl here ↦ row_of-push id row rows (ap (λ n. knows key n rows) (eqb-true id (key row) here) ∙ new) ∙ rw here refl
      | inr apart ↦ rw apart (row_of-push_other id row rows apart)
    ])
  ]

  -- the rows once a row is taken away, as a map from ids
  pub row_of-rows_without : (id gone : ℕ) (rows : List R) → row_of key id (rows_without key gone rows) ≡ cond (nat_eq id gone) None (row_of key id rows)
  unfolding rows_without
  row_of-rows_without id gone [] = none_both (nat_eq id gone)
    where
      none_both : (b : Bool) → ◌≡◌ {A = Option R} None (cond b None None)
      none_both true = refl
      none_both false = refl
  row_of-rows_without id gone (first ∷ rows) =
      let rest = row_of-rows_without id gone rows in
      elim (cases_Bool (has_id key gone first)) [
        | inl here ↦ rw here (rest ∙ elim (cases_Bool (nat_eq id gone)) [
          | inl is ↦ rw is refl
          | inr apart ↦ rw (apart, sym (ap (nat_eq id) (eqb-true gone (key first) here)) ∙ apart) refl
        ])
        | inr other ↦ rw other (elim (cases_Bool (nat_eq id gone)) [
          | inl is ↦ rw (is, ap (λ n. nat_eq n (key first)) (eqb-true id gone is) ∙ other) (rest ∙ rw is refl)
          | inr apart ↦ rw apart (ap (λ found. cond (has_id key id first) (Some first) found) (rest ∙ rw apart refl))
        ])
      ]

  -- and the ids that they know
  pub knows-rows_with : (id : ℕ) (row : R) (rows : List R) → knows key id (rows_with key row rows) ≡ (nat_eq id (key row) || knows key id rows)
  knows-rows_with id row rows =
      sym (is_some-row_of key id (rows_with key row rows)) ∙ ap is_some (row_of-rows_with id row rows) ∙ by (nat_eq id (key row))
    where
      by : (b : Bool) → is_some (cond b (Some row) (row_of key id rows)) ≡ (b || knows key id rows)
      by true = refl
      by false = is_some-row_of key id rows

  pub knows-rows_without : (id gone : ℕ) (rows : List R) → knows key id (rows_without key gone rows) ≡ (not (nat_eq id gone) && knows key id rows)
  knows-rows_without id gone rows =
      sym (is_some-row_of key id (rows_without key gone rows)) ∙ ap is_some (row_of-rows_without id gone rows) ∙ by (nat_eq id gone)
    where
      by : (b : Bool) → is_some (cond b None (row_of key id rows)) ≡ (not b && knows key id rows)
      by true = refl
      by false = is_some-row_of key id rows

  -- each of these rows is put, and each of these ids is taken away
  abbrev put_all : List R → List R → List R
  put_all more rows = fold (λ kept row. rows_with key row kept) rows more

  abbrev drop_all : List ℕ → List R → List R
  drop_all ids rows = fold (λ kept id. rows_without key id kept) rows ids

  row_of-put_all : (id : ℕ) (more rows : List R) → IdsDiffer key more → row_of key id (put_all more rows) ≡ cond (knows key id more) (row_of key id more) (row_of key id rows)
  row_of-put_all id [] rows differ = refl
  row_of-put_all id (row ∷ more) rows differ =
      let rest = row_of-put_all id more (rows_with key row rows) (differ_past key row more differ) in
      rest ∙ elim (cases_Bool (nat_eq id (key row))) [
        | inl here ↦ rw (here, knows-lacks key id more (lacks_past key id row more differ here)) (row_of-rows_with id row rows ∙ rw here refl)
        | inr apart ↦ rw apart (ap (λ found. cond (knows key id more) (row_of key id more) found) (row_of-rows_with id row rows ∙ rw apart refl))
      ]

  row_of-drop_all : (id : ℕ) (ids : List ℕ) (rows : List R) → row_of key id (drop_all ids rows) ≡ cond (list_any (nat_eq id) ids) None (row_of key id rows)
  row_of-drop_all id [] rows = refl
  row_of-drop_all id (gone ∷ ids) rows =
      row_of-drop_all id ids (rows_without key gone rows)
      ∙ ap (λ found. cond (list_any (nat_eq id) ids) None found) (row_of-rows_without id gone rows)
      ∙ by (nat_eq id gone) (list_any (nat_eq id) ids)
    where
      by : (here later : Bool) → cond later None (cond here None (row_of key id rows)) ≡ cond (here || later) None (row_of key id rows)
      by true true = refl
      by true false = refl
      by false later = refl

  -- the row of an id among those that pass a test
  row_of-filter : (id : ℕ) (keep : R → Bool) (row : R) (rows : List R) → IdsDiffer key rows → row_of key id rows ≡ Some row → row_of key id (filter keep rows) ≡ cond (keep row) (Some row) None
  row_of-filter id keep row [] differ found = cc
  row_of-filter id keep row (first ∷ rows) differ found =
      let rest = row_of-filter id keep row rows (differ_past key first rows differ) in
      elim (cases_Bool (has_id key id first)) [
        | inl here ↦
            let is : first ≡ row = some_is first row (sym (ap (λ b. cond b (Some first) (row_of key id rows)) here) ∙ found) in
            let none = row_of-unknown id (filter keep rows) (knows-lacks key id (filter keep rows) (each-filter (λ kept. has_id key id kept ≡ false) keep rows (lacks_past key id first rows differ here))) in
            elim (cases_Bool (keep first)) [
              | inl kept ↦ rw kept (rw here (ap Some is ∙ sym (ap (λ b. cond b (Some row) None) (ap keep (sym is) ∙ kept))))
              | inr left ↦ rw left (none ∙ sym (ap (λ b. cond b (Some row) None) (ap keep (sym is) ∙ left)))
            ]
        | inr apart ↦
            let later = rest (sym (ap (λ b. cond b (Some first) (row_of key id rows)) apart) ∙ found) in
            elim (cases_Bool (keep first)) [
              | inl kept ↦ rw kept (rw apart later)
              | inr left ↦ rw left later
            ]
      ]

  knows-filter : (id : ℕ) (keep : R → Bool) (rows : List R) → knows key id rows ≡ false → knows key id (filter keep rows) ≡ false
  knows-filter id keep rows unknown =
      knows-lacks key id (filter keep rows) (each-filter (λ kept. has_id key id kept ≡ false) keep rows (lacks-unknown key id rows unknown))

  -- an id is gone where the old rows know it and the new ones don't
  gone-any : (id : ℕ) (old new : List R) → list_any (nat_eq id) (map key (filter (λ row. not (knows key (key row) new)) old)) ≡ (knows key id old && not (knows key id new))
  gone-any id [] new = refl
  gone-any id (row ∷ old) new =
      let rest = gone-any id old new in
      elim (cases_Bool (nat_eq id (key row))) [
        | inl here ↦
            rw (ap (λ n. knows key n new) (sym (eqb-true id (key row) here))) (found (knows key id new) here rest)
        | inr apart ↦ rw apart (other (knows key (key row) new) apart rest)
      ]
    where
      gone : List R
      gone = filter (λ kept. not (knows key (key kept) new)) old

      found : (b : Bool) → nat_eq id (key row) ≡ true → list_any (nat_eq id) (map key gone) ≡ (knows key id old && not b) → list_any (nat_eq id) (map key (cond (not b) (row ∷ gone) gone)) ≡ ((nat_eq id (key row) || knows key id old) && not b)
      found true here rest = rest ∙ and_false (knows key id old) ∙ sym (and_false (nat_eq id (key row) || knows key id old))
      found false here rest = rw here refl

      other : (b : Bool) → nat_eq id (key row) ≡ false → list_any (nat_eq id) (map key gone) ≡ (knows key id old && not (knows key id new)) → list_any (nat_eq id) (map key (cond (not b) (row ∷ gone) gone)) ≡ (knows key id old && not (knows key id new))
      other true apart rest = rest
      other false apart rest = rw apart rest

  KeysRise-drop_all : (ids : List ℕ) (rows : List R) → KeysRise key rows → KeysRise key (drop_all ids rows)
  KeysRise-drop_all [] rows rise = rise
  KeysRise-drop_all (id ∷ ids) rows rise =
      KeysRise-drop_all ids (rows_without key id rows) (KeysRise-rows_without key id rows rise)

  -- what the rows once a row is put don't know is above them, where it was above the rows and the row
  above_with : (row later : R) (rows : List R) → key row < key later → (knows key (key later) rows ≡ false → KeysBelow key (key later) rows) → knows key (key later) (rows_with key row rows) ≡ false → KeysBelow key (key later) (rows_with key row rows)
  above_with row later rows over above unknown = elim (cases_Bool (knows key (key row) rows)) [
    | inl known ↦
        let with_row = rows_with-known key row rows known in
        let before = sym (knows-map key (replaced key row) (key-replaced key row) (key later) rows) ∙ ap (knows key (key later)) (sym with_row) ∙ unknown in
        rw with_row (KeysBelow-map key (replaced key row) (key-replaced key row) (key later) rows (above before))
    | inr new ↦
        let with_row = rows_with-new key row rows new in
        let both = sym (list_any-append (has_id key (key later)) rows (row ∷ [])) ∙ ap (knows key (key later)) (sym with_row) ∙ unknown in
        rw with_row (KeysBelow-push key (key later) row rows (above (or_parts (knows key (key later) rows) (knows key (key later) (row ∷ [])) both).0) over)
  ]

  KeysRise-put_all : (more rows : List R) → KeysRise key rows → KeysRise key more → NewAreAbove key rows more → KeysRise key (put_all more rows)
  KeysRise-put_all [] rows rise rises above = rise
  KeysRise-put_all (row ∷ more) rows rise rises above =
      KeysRise-put_all more (rows_with key row rows) (KeysRise-rows_with key row rows rise above.0) (rise_tail key row more rises)
      (each-join (λ later. key row < key later) (λ later. knows key (key later) rows ≡ false → KeysBelow key (key later) rows) (λ later. knows key (key later) (rows_with key row rows) ≡ false → KeysBelow key (key later) (rows_with key row rows)) more
      (λ later over below. above_with row later rows over below) (rise_head key row more rises) above.1)

  -- the row of the first id, where the ids rise
  row_of-first : (row : R) (rows : List R) → row_of key (key row) (row ∷ rows) ≡ Some row
  row_of-first row rows = rw (eq-eqb (key row) (key row) refl) refl

  row_of-above : (id : ℕ) (row : R) (rows : List R) → KeysRise key (row ∷ rows) → id < key row → row_of key id (row ∷ rows) ≡ None
  row_of-above id row rows rise under =
      row_of-unknown id (row ∷ rows) (knows-above key id (row ∷ rows) (under, each-weaken (λ later. key row < key later) (λ later. id < key later) rows (λ later over. omega arith) (rise_head key row rows rise)))

  -- lists with rising ids that have the same rows are equal
  pub rising-same : (left right : List R) → KeysRise key left → KeysRise key right → ((id : ℕ) → row_of key id left ≡ row_of key id right) → left ≡ right
  rising-same [] [] rise rises alike = refl
  rising-same [] (row ∷ right) rise rises alike = absurd (none_some (alike (key row) ∙ row_of-first row right))
    where
      none_some : None ≡ Some row → ⊥
      none_some is = cc
  rising-same (row ∷ left) [] rise rises alike = absurd (none_some (sym (alike (key row)) ∙ row_of-first row left))
    where
      none_some : None ≡ Some row → ⊥
      none_some is = cc
  rising-same (row ∷ left) (other ∷ right) rise rises alike =
      let rest = rising-same left right (rise_tail key row left rise) (rise_tail key other right rises) in
      elim (cases_order (key row) (key other)) [
        | inl same_key ↦
            let is : row ≡ other = some_is row other (sym (row_of-first row left) ∙ alike (key row) ∙ ap (λ id. row_of key id (other ∷ right)) same_key ∙ row_of-first other right) in
            λ i. is i ∷ rest (later same_key) i
        | inr (inl under) ↦ absurd (none_some row (sym (row_of-above (key row) other right rises under) ∙ sym (alike (key row)) ∙ row_of-first row left))
        | inr (inr over) ↦ absurd (none_some other (sym (row_of-above (key other) row left rise over) ∙ alike (key other) ∙ row_of-first other right))
      ]
    where
      none_some : (found : R) → None ≡ Some found → ⊥
      none_some found is = cc

      later : key row ≡ key other → (id : ℕ) → row_of key id left ≡ row_of key id right
      later same_key id = elim (cases_Bool (has_id key id row)) [
        | inl here ↦
            row_of-unknown id left (knows-above key id left (subst (λ n. KeysAbove key n left) (sym (eqb-true id (key row) here)) (rise_head key row left rise)))
            ∙ sym (row_of-unknown id right (knows-above key id right (subst (λ n. KeysAbove key n right) (sym (eqb-true id (key row) here ∙ same_key)) (rise_head key other right rises))))
        | inr apart ↦
            sym (ap (λ b. cond b (Some row) (row_of key id left)) apart)
            ∙ alike id
            ∙ ap (λ b. cond b (Some other) (row_of key id right)) (sym (ap (nat_eq id) same_key) ∙ apart)
      ]

  module _ (code : Coded R) where
    -- where ids differ, a row that is held is the one under its id
    row_of-held : (row : R) (rows : List R) → IdsDiffer key rows → holds code row rows ≡ true → row_of key (key row) rows ≡ Some row
    row_of-held row [] differ held = cc
    row_of-held row (first ∷ rows) differ held =
        let rest = row_of-held row rows (differ_past key first rows differ) in
        elim (cases_Bool (has_id key (key row) first)) [
          | inl here ↦
              let unheld = holds-unknown code key row rows (knows-lacks key (key row) rows (lacks_past key (key row) first rows differ here)) in
              let same_first = sym (or_false (same code row first)) ∙ sym (ap (λ b. same code row first || b) unheld) ∙ held in
              rw here (ap Some (sym (same-true code row first same_first)))
          | inr apart ↦
              let other = same-differ code row first (λ is. true≢false (sym (eq-eqb (key row) (key first) (ap key is)) ∙ apart)) in
              rw apart (rest (sym (ap (λ b. b || holds code row rows) other) ∙ held))
        ]

    -- the old rows with all that is new put and all that is gone taken away
    abbrev rebuilt : List R → List R → List R
    rebuilt old new = drop_all (gone_ids key old new) (put_all (new_rows code old new) old)

    fresh-row_of : (id : ℕ) (old new : List R) → IdsDiffer key old → IdsDiffer key new → (found : Option R) → row_of key id new ≡ found → cond (list_any (nat_eq id) (gone_ids key old new)) None (cond (knows key id (new_rows code old new)) (row_of key id (new_rows code old new)) (row_of key id old)) ≡ found
    unfolding gone_ids new_rows
    fresh-row_of id old new apart differ None none =
        let unknown = sym (is_some-row_of key id new) ∙ ap is_some none in
        rw (gone-any id old new, unknown, knows-filter id (λ row. not (holds code row old)) new unknown) (by (knows key id old) refl)
      where
        by : (b : Bool) → knows key id old ≡ b → cond (b && true) None (row_of key id old) ≡ None
        by true known = refl
        by false unknown = row_of-unknown id old unknown
    fresh-row_of id old new apart differ (Some row) found =
        let known = sym (is_some-row_of key id new) ∙ ap is_some found in
        let fresh : List R = filter (λ kept. not (holds code kept old)) new in
        let kept = row_of-filter id (λ kept. not (holds code kept old)) row new differ found in
        let at_id = key-row_of key id row new found in
        rw (gone-any id old new, known, and_false (knows key id old)) (elim (cases_Bool (holds code row old)) [
          | inl held ↦
              let none = kept ∙ ap (λ b. cond (not b) (Some row) None) held in
              rw (sym (is_some-row_of key id fresh) ∙ ap is_some none) (ap (λ n. row_of key n old) at_id ∙ row_of-held row old apart held)
          | inr unheld ↦
              let here = kept ∙ ap (λ b. cond (not b) (Some row) None) unheld in
              rw (sym (is_some-row_of key id fresh) ∙ ap is_some here) here
        ])

    IdsDiffer-new_rows : (old new : List R) → IdsDiffer key new → IdsDiffer key (new_rows code old new)
    unfolding new_rows
    IdsDiffer-new_rows old new differ = IdsDiffer-filter key (λ row. not (holds code row old)) new differ

    -- they have the rows of the new ones, as maps from ids
    pub row_of-rebuilt : (id : ℕ) (old new : List R) → IdsDiffer key old → IdsDiffer key new → row_of key id (rebuilt old new) ≡ row_of key id new
    row_of-rebuilt id old new apart differ =
        row_of-drop_all id (gone_ids key old new) (put_all (new_rows code old new) old)
        ∙ ap (λ found. cond (list_any (nat_eq id) (gone_ids key old new)) None found) (row_of-put_all id (new_rows code old new) old (IdsDiffer-new_rows old new differ))
        ∙ fresh-row_of id old new apart differ (row_of key id new) refl

    -- in the order of their ids too
    pub KeysRise-rebuilt : (old new : List R) → KeysRise key old → KeysRise key new → NewAreAbove key old new → KeysRise key (rebuilt old new)
    unfolding new_rows
    KeysRise-rebuilt old new rise rises above =
        KeysRise-drop_all (gone_ids key old new) (put_all (new_rows code old new) old)
        (KeysRise-put_all (new_rows code old new) old rise (KeysRise-filter key (λ row. not (holds code row old)) new rises)
        (each-filter (λ row. knows key (key row) old ≡ false → KeysBelow key (key row) old) (λ row. not (holds code row old)) new above))

    pub rebuilt-new : (old new : List R) → KeysRise key old → KeysRise key new → NewAreAbove key old new → rebuilt old new ≡ new
    rebuilt-new old new rise rises above =
        rising-same (rebuilt old new) new (KeysRise-rebuilt old new rise rises above) rises
        (λ id. row_of-rebuilt id old new (IdsDiffer-rising key old rise) (IdsDiffer-rising key new rises))

    -- a state whose rows are told by the changes that act on it
    module _ {S Change : Type 0} (put : R → Change) (drop : ℕ → Change) (act : S → Change → S) (rows_in : S → List R) (acts : ActsOnRows key put drop act rows_in) where
      puts : (more : List R) (state : S) → rows_in (fold act state (map put more)) ≡ put_all more (rows_in state)
      puts [] state = refl
      puts (row ∷ more) state = puts more (act state (put row)) ∙ ap (put_all more) (acts.puts state row)

      drops : (ids : List ℕ) (state : S) → rows_in (fold act state (map drop ids)) ≡ drop_all ids (rows_in state)
      drops [] state = refl
      drops (id ∷ ids) state = drops ids (act state (drop id)) ∙ ap (drop_all ids) (acts.drops state id)

      replayed : (state : S) (new : List R) → rows_in (fold act state (table_changes code key put drop (rows_in state) new)) ≡ rebuilt (rows_in state) new
      unfolding table_changes
      replayed state new =
          let fresh = map put (new_rows code (rows_in state) new) in
          let gone = map drop (gone_ids key (rows_in state) new) in
          ap rows_in (fold-append act state fresh gone)
          ∙ drops (gone_ids key (rows_in state) new) (fold act state fresh)
          ∙ ap (drop_all (gone_ids key (rows_in state) new)) (puts (new_rows code (rows_in state) new) state)

      pub row_of-replayed : (state : S) (new : List R) → IdsDiffer key (rows_in state) → IdsDiffer key new → (id : ℕ) → row_of key id (rows_in (fold act state (table_changes code key put drop (rows_in state) new))) ≡ row_of key id new
      row_of-replayed state new apart differ id =
          ap (row_of key id) (replayed state new) ∙ row_of-rebuilt id (rows_in state) new apart differ

      pub rows-replayed : (state : S) (new : List R) → KeysRise key (rows_in state) → KeysRise key new → NewAreAbove key (rows_in state) new → rows_in (fold act state (table_changes code key put drop (rows_in state) new)) ≡ new
      rows-replayed state new rise rises above = replayed state new ∙ rebuilt-new (rows_in state) new rise rises above
