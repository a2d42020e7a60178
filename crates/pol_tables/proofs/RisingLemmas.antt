-- Lists of rows whose keys rise, pushed to, filtered and replaced in.
use Rattle.std.proofs.Common.{◌≡◌, ℕ, ◌<◌, ◌≤◌, Bool, true, false, not, cond, List, [], ◌∷◌, ◌++◌, map, filter, nat_eq, refl, inl, inr, arith}
use Rattle.std.specs.List.{IsDistinct}
use Rattle.std.proofs.lemmas.Bool.{cases_Bool, eqb-true, ne_eqb}
use Rattle.pol_tables.specs.Rising.{KeysBelow, KeysAbove, KeysRise}
use Rattle.pol_tables.specs.Table.{has_id, knows, rows_with, rows_without, IdsDiffer}
use Rattle.pol_tables.proofs.ListLemmas.{each-push, each-filter, each-map, each-weaken}
use Rattle.pol_tables.proofs.TableLemmas.{rows_with-known, rows_with-new}

module _ {R : Type 0} (key : R → ℕ) where
  pub rise_head : (row : R) (rows : List R) → KeysRise key (row ∷ rows) → KeysAbove key (key row) rows
  unfolding KeysRise
  rise_head row rows rise = rise.0

  pub rise_tail : (row : R) (rows : List R) → KeysRise key (row ∷ rows) → KeysRise key rows
  unfolding KeysRise
  rise_tail row rows rise = rise.1

  -- keys below a number are below a greater one
  pub KeysBelow-more : (low high : ℕ) (rows : List R) → low ≤ high → KeysBelow key low rows → KeysBelow key high rows
  KeysBelow-more low high rows within below =
      each-weaken (λ row. key row < low) (λ row. key row < high) rows (λ row under. omega arith) below

  pub KeysBelow-push : (high : ℕ) (row : R) (rows : List R) → KeysBelow key high rows → key row < high → KeysBelow key high (rows ++ row ∷ [])
  KeysBelow-push high row rows below under = each-push (λ kept. key kept < high) rows row below under

  pub KeysBelow-filter : (high : ℕ) (keep : R → Bool) (rows : List R) → KeysBelow key high rows → KeysBelow key high (filter keep rows)
  KeysBelow-filter high keep rows below = each-filter (λ kept. key kept < high) keep rows below

  -- a row above all others may be pushed
  pub KeysRise-push : (row : R) (rows : List R) → KeysRise key rows → KeysBelow key (key row) rows → KeysRise key (rows ++ row ∷ [])
  unfolding KeysRise
  KeysRise-push row [] rise below = (tt, tt)
  KeysRise-push row (first ∷ rows) rise below =
      (each-push (λ kept. key first < key kept) rows row rise.0 below.0, KeysRise-push row rows rise.1 below.1)

  pub KeysRise-filter : (keep : R → Bool) (rows : List R) → KeysRise key rows → KeysRise key (filter keep rows)
  unfolding KeysRise
  KeysRise-filter keep [] rise = tt
  KeysRise-filter keep (row ∷ rows) rise =
      let rest = KeysRise-filter keep rows rise.1 in
      elim (keep row) as (λ b. KeysRise key (cond b (row ∷ filter keep rows) (filter keep rows))) [
        | true ↦ (each-filter (λ kept. key row < key kept) keep rows rise.0, rest)
        | false ↦ rest
      ]

  -- rows may be altered where they keep their keys
  module _ (alter : R → R) (keeps : (row : R) → key (alter row) ≡ key row) where
    pub KeysBelow-map : (high : ℕ) (rows : List R) → KeysBelow key high rows → KeysBelow key high (map alter rows)
    KeysBelow-map high rows below =
        each-map (λ kept. key kept < high) alter rows (each-weaken (λ row. key row < high) (λ row. key (alter row) < high) rows (λ row under. rw (keeps row) under) below)

    pub KeysAbove-map : (low : ℕ) (rows : List R) → KeysAbove key low rows → KeysAbove key low (map alter rows)
    KeysAbove-map low rows above =
        each-map (λ kept. low < key kept) alter rows (each-weaken (λ row. low < key row) (λ row. low < key (alter row)) rows (λ row over. rw (keeps row) over) above)

    pub KeysRise-map : (rows : List R) → KeysRise key rows → KeysRise key (map alter rows)
    unfolding KeysRise
    KeysRise-map [] rise = tt
    KeysRise-map (row ∷ rows) rise =
        (rw (keeps row) (KeysAbove-map (key row) rows rise.0), KeysRise-map rows rise.1)

  -- a replacement under an id keeps each key
  pub key-replaced : (row kept : R) → key (cond (has_id key (key row) kept) row kept) ≡ key kept
  key-replaced row kept = elim (cases_Bool (has_id key (key row) kept)) [
    | inl here ↦ rw here (eqb-true (key row) (key kept) here)
    | inr other ↦ rw other refl
  ]

  -- a known id's row may be put, and a new one's above all others
  pub KeysRise-rows_with : (row : R) (rows : List R) → KeysRise key rows → (knows key (key row) rows ≡ false → KeysBelow key (key row) rows) → KeysRise key (rows_with key row rows)
  KeysRise-rows_with row rows rise below = elim (cases_Bool (knows key (key row) rows)) [
    | inl known ↦ rw (rows_with-known key row rows known) (KeysRise-map (λ kept. cond (has_id key (key row) kept) row kept) (key-replaced row) rows rise)
    | inr new ↦ rw (rows_with-new key row rows new) (KeysRise-push row rows rise (below new))
  ]

  pub KeysRise-rows_without : (id : ℕ) (rows : List R) → KeysRise key rows → KeysRise key (rows_without key id rows)
  unfolding rows_without
  KeysRise-rows_without id rows rise = KeysRise-filter (λ row. not (has_id key id row)) rows rise

  -- rising keys differ
  pub IdsDiffer-rising : (rows : List R) → KeysRise key rows → IdsDiffer key rows
  unfolding KeysRise IsDistinct
  IdsDiffer-rising [] rise = tt
  IdsDiffer-rising (row ∷ rows) rise = (
    each-map (λ id. nat_eq (key row) id ≡ false) key rows (each-weaken (λ later. key row < key later) (λ later. nat_eq (key row) (key later) ≡ false) rows (λ later above. ne_eqb (key row) (key later) (λ is. omega arith)) rise.0),
    IdsDiffer-rising rows rise.1,
  )

  -- an id above all is unknown
  pub knows-below : (id : ℕ) (rows : List R) → KeysBelow key id rows → knows key id rows ≡ false
  knows-below id [] below = refl
  knows-below id (row ∷ rows) below =
      rw (ne_eqb id (key row) (λ is. omega (arith, below.0))) (knows-below id rows below.1)

  -- an id below all is unknown
  pub knows-above : (id : ℕ) (rows : List R) → KeysAbove key id rows → knows key id rows ≡ false
  knows-above id [] above = refl
  knows-above id (row ∷ rows) above =
      rw (ne_eqb id (key row) (λ is. omega (arith, above.0))) (knows-above id rows above.1)
