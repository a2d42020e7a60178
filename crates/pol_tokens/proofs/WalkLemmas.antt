-- How the rows of one principal are counted along their chain, from the last one on.
use Rattle.std.proofs.Common.{◌≡◌, ℕ, ◌+◌, ◌<◌, ◌≤◌, ◌⊎◌, Bool, true, false, cond, ◌&&◌, List, [], ◌∷◌, ◌++◌, Some, nat_eq, nat_lt, length, refl, sym, ap, subst, ◌∙◌, inl, inr, arith, slice_get}
use Rattle.std.specs.List.{AllByRecursion}
use Rattle.std.proofs.lemmas.Bool.{cases_Bool, eqb-true}
use Rattle.std.proofs.lemmas.List.{append-nil, append_assoc}
use Rattle.std.proofs.lemmas.List.Sums.{sum_by-append, sum_by-cons}
use Rattle.pol_tables.proofs.CountLemmas.{count-none}
use Rattle.pol_tables.proofs.ListLemmas.{each-weaken}
use Rattle.pol_tokens.specs.Chains.{count_held, is_held, last_from, last_of, link_of, links_from}
use Rattle.pol_tokens.specs.HeldTable.{is_live_at, lives}

-- one where it passes the test
abbrev counted_one : {X : Type 0} → (X → Bool) → X → ℕ
counted_one test x = cond (test x) 1 0

module _ {R : Type 0} (holder : R → ℕ) where
  -- the row at a place, and the link of the row there
  row-at : (front : List R) (row : R) (back : List R) → slice_get (front ++ row ∷ back) (length front) ≡ Some row
  row-at [] row back = refl
  row-at (first ∷ front) row back = row-at front row back

  link-at : (before front : List R) (row : R) (back : List R) → link_of (length front) (links_from holder before (front ++ row ∷ back)) ≡ last_of holder (holder row) (before ++ front)
  link-at before [] row back = ap (last_of holder (holder row)) (sym (append-nil before))
  link-at before (first ∷ front) row back =
      link-at (before ++ first ∷ []) front row back ∙ ap (last_of holder (holder row)) (append_assoc before (first ∷ []) front)

  -- no place is behind the rows
  last_from-within : (principal first found : ℕ) (rows : List R) → found ≤ first → last_from holder principal first found rows ≤ first + length rows
  last_from-within principal first found [] within = omega (arith, within)
  last_from-within principal first found (row ∷ rows) within =
      let rest = last_from-within principal (first + 1) (cond (nat_eq principal (holder row)) (first + 1) found) rows (by (nat_eq principal (holder row))) in
      omega (arith, rest)
    where
      by : (b : Bool) → cond b (first + 1) found ≤ first + 1
      by true = omega arith
      by false = omega (arith, within)

  pub last_of-within : (principal : ℕ) (rows : List R) → last_of holder principal rows ≤ length rows
  last_of-within principal rows =
      let within = last_from-within principal 0 0 rows (omega arith) in
      omega (arith, within)

  module _ (principal : ℕ) where
    abbrev pub IsOther : R → Type 0
    IsOther row = nat_eq principal (holder row) ≡ false

    -- a row of the principal, those before it, and those behind it, which are of others
    record Split (first place : ℕ) (rows : List R) : Type 0 where
      front : List R
      row : R
      back : List R
      is : rows ≡ front ++ row ∷ back
      stands : place ≡ first + length front + 1
      own : nat_eq principal (holder row) ≡ true
      others : AllByRecursion IsOther back

    abbrev Told : ℕ → ℕ → List R → Type 0
    Told first found rows =
        ((last_from holder principal first found rows ≡ found) × AllByRecursion IsOther rows) ⊎ Split first (last_from holder principal first found rows) rows

    last-step : (first found : ℕ) (row : R) (rows : List R) → Told (first + 1) (cond (nat_eq principal (holder row)) (first + 1) found) rows → Told first found (row ∷ rows)
    last-step first found row rows (inr split) = inr (record {
      front = row ∷ split.front;
      row = split.row;
      back = split.back;
      is = ap (λ later. row ∷ later) split.is;
      stands = omega (arith, split.stands);
      own = split.own;
      others = split.others;
    })
    last-step first found row rows (inl none) = elim (cases_Bool (nat_eq principal (holder row))) [
      | inl own ↦ inr (record {
        front = [];
        row = row;
        back = rows;
        is = refl;
        stands = none.0 ∙ ap (λ b. cond b (first + 1) found) own ∙ omega arith;
        own = own;
        others = none.1;
      })
      | inr other ↦ inl (none.0 ∙ ap (λ b. cond b (first + 1) found) other, (other, none.1))
    ]

    last-told : (first found : ℕ) (rows : List R) → Told first found rows
    last-told first found [] = inl (refl, tt)
    last-told first found (row ∷ rows) =
        last-step first found row rows (last-told (first + 1) (cond (nat_eq principal (holder row)) (first + 1) found) rows)

    place-none : (rows : List R) → 0 ≡ last_of holder principal rows → AllByRecursion IsOther rows
    place-none rows zero_is = elim (last-told 0 0 rows) [
      | inl none ↦ none.1
      | inr split ↦ absurd (omega (arith, zero_is, split.stands))
    ]

    place-split : (rows : List R) → 0 < last_of holder principal rows → Split 0 (last_of holder principal rows) rows
    place-split rows some = elim (last-told 0 0 rows) [
      | inl none ↦ absurd (omega (arith, some, none.0))
      | inr split ↦ split
    ]

    module _ (expiry : R → ℕ) (now : ℕ) where
      abbrev held_in : List R → ℕ
      held_in rows = count_held holder expiry principal now rows

      not_held : (row : R) → IsOther row → is_held holder expiry principal now row ≡ false
      not_held row other = ap (λ b. b && nat_lt now (expiry row)) other

      none-held : (rows : List R) → AllByRecursion IsOther rows → held_in rows ≡ 0
      none-held rows others =
          count-none (is_held holder expiry principal now) rows (each-weaken IsOther (λ row. is_held holder expiry principal now row ≡ false) rows not_held others)

      -- those before a place are not counted yet, and those behind it are
      pub record Walks (rows : List R) (place held : ℕ) : Type 0 where
        pub before : List R
        pub rest : List R
        pub is : rows ≡ before ++ rest
        pub stands : place ≡ last_of holder principal before
        pub counted : held + held_in before ≡ held_in rows

      pub walk-start : (rows : List R) (place : ℕ) → place ≡ last_of holder principal rows → Walks rows place 0
      walk-start rows place is = record {
        before = rows;
        rest = [];
        is = sym (append-nil rows);
        stands = is;
        counted = omega arith;
      }

      pub walk-end : (rows : List R) (held : ℕ) → Walks rows 0 held → held ≡ held_in rows
      walk-end rows held walk =
          omega (arith, walk.counted, none-held walk.before (place-none walk.before walk.stands))

      -- one step of the walk
      pub record Steps (rows : List R) (place held n : ℕ) : Type 0 where
        pub live : ℕ
        pub is_live : live ≡ cond (is_live_at expiry n now rows) 1 0
        pub walks : Walks rows (link_of n (links_from holder [] rows)) (held + live)
        pub falls : link_of n (links_from holder [] rows) < place

      step-of : (rows : List R) (place held n : ℕ) (walk : Walks rows place held) → n + 1 ≡ place → Split 0 place walk.before → Steps rows place held n
      step-of rows place held n walk next split =
          let at : n ≡ length split.front = omega (arith, next, split.stands) in
          let all : rows ≡ split.front ++ split.row ∷ (split.back ++ walk.rest) = walk.is ∙ ap (λ part. part ++ walk.rest) split.is ∙ append_assoc split.front (split.row ∷ split.back) walk.rest in
          let live_is : is_live_at expiry n now rows ≡ nat_lt now (expiry split.row) =
          (λ i. lives expiry now (slice_get (all i) (at i))) ∙ ap (lives expiry now) (row-at split.front split.row (split.back ++ walk.rest)) in
          let held_is : is_held holder expiry principal now split.row ≡ is_live_at expiry n now rows =
          ap (λ b. b && nat_lt now (expiry split.row)) split.own ∙ sym live_is in
          let link_is : link_of n (links_from holder [] rows) ≡ last_of holder principal split.front =
          (λ i. link_of (at i) (links_from holder [] (all i))) ∙ link-at [] split.front split.row (split.back ++ walk.rest) ∙ ap (λ id. last_of holder id split.front) (sym (eqb-true principal (holder split.row) split.own)) in
          let parts : held_in walk.before ≡ held_in split.front + held_in (split.row ∷ split.back) =
          ap held_in split.is ∙ sum_by-append (counted_one (is_held holder expiry principal now)) split.front (split.row ∷ split.back) in
          let first : held_in (split.row ∷ split.back) ≡ cond (is_live_at expiry n now rows) 1 0 + held_in split.back =
          sum_by-cons (counted_one (is_held holder expiry principal now)) split.row split.back ∙ ap (λ b. cond b 1 0 + held_in split.back) held_is in
          let others = none-held split.back split.others in
          let within = last_of-within principal split.front in
          record {
            live = cond (is_live_at expiry n now rows) 1 0;
            is_live = refl;
            walks = record {
              before = split.front;
              rest = split.row ∷ (split.back ++ walk.rest);
              is = all;
              stands = link_is;
              counted = omega (arith, walk.counted, parts, first, others);
            };
            falls = omega (arith, link_is, within, at, next);
          }

      pub walk-step : (rows : List R) (place held n : ℕ) → Walks rows place held → n + 1 ≡ place → Steps rows place held n
      walk-step rows place held n walk next =
          step-of rows place held n walk next (subst (λ found. Split 0 found walk.before) (sym walk.stands) (place-split walk.before (omega (arith, next, walk.stands))))
