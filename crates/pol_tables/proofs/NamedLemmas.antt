-- Rows found by a name through an index, and the index once a row is put or taken away.
use Rattle.std.proofs.Common.{◌≡◌, ◌≢◌, ℕ, Bool, true, false, not, ◌||◌, cond, List, [], ◌∷◌, filter, Option, Some, None, refl, sym, ap, subst, ◌∙◌, inl, inr, true≢false}
use Rattle.std.specs.Cmp.{nat_eq_equiv}
use Rattle.std.specs.List.{find, AllByRecursion}
use Rattle.std.proofs.lemmas.Bool.{cases_Bool, eq-eqb}
use Rattle.pol_tables.specs.Facts.{holds}
use Rattle.pol_tables.specs.Index.{IndexValue, is_noted, entry_number, same_entry}
use Rattle.pol_tables.specs.Named.{entry_of, AreNoted, FindsOr, IsMissed, IsMissedFirst, named_row, passing}
use Rattle.pol_tables.specs.Table.{has_id, knows, row_of, rows_with, rows_without, IdsDiffer}
use Rattle.pol_tables.specs.contracts.index.IndexEntry.{the_row}
use Rattle.pol_tables.specs.declared.index.IndexEntry.{IndexEntry}
use Rattle.pol_tables.proofs.IndexLemmas.{each_at, held_row}
use Rattle.pol_tables.proofs.ListLemmas.{each-join, each-map, each-push, each-weaken, or_true}
use Rattle.pol_tables.proofs.SameLemmas.{same-refl}
use Rattle.pol_tables.proofs.TableLemmas.{differ_head, differ_past, key-row_of, lacks-unknown, rows_with-known, rows_with-new}

-- where each item fails a test, none is found
pub find-none : {X : Type 0} (test : X → Bool) (xs : List X) → AllByRecursion (λ x. test x ≡ false) xs → find test xs ≡ None
find-none test [] all = refl
find-none test (x ∷ xs) all = rw all.0 (find-none test xs all.1)

module _ {R : Type 0} (key : R → ℕ) where
  -- where ids differ, each row is the row of its id
  pub each-own : (rows : List R) → IdsDiffer key rows → AllByRecursion (λ row. row_of key (key row) rows ≡ Some row) rows
  each-own [] differ = tt
  each-own (first ∷ rows) differ = (
    rw (eq-eqb (key first) (key first) refl) refl,
    each-join (λ row. has_id key (key first) row ≡ false) (λ row. row_of key (key row) rows ≡ Some row) (λ row. row_of key (key row) (first ∷ rows) ≡ Some row) rows (λ row apart own. rw (nat_eq_equiv.symm (key row) (key first) ∙ apart) own) (differ_head key first rows differ) (each-own rows (differ_past key first rows differ)),
  )

  -- what holds of each row once one is put, and once one is taken away
  module _ (P Q : R → Type 0) where
    replaced_each : (new : R) → Q new → (row : R) → P row → (has_id key (key new) row ≡ false → Q row) → (b : Bool) → has_id key (key new) row ≡ b → Q (cond b new row)
    replaced_each new here row there keeps true is = here
    replaced_each new here row there keeps false is = keeps is

    pub each-rows_with : (new : R) (rows : List R) → AllByRecursion P rows → ((row : R) → P row → has_id key (key new) row ≡ false → Q row) → Q new → AllByRecursion Q (rows_with key new rows)
    each-rows_with new rows all keeps here = elim (cases_Bool (knows key (key new) rows)) [
      | inl known ↦ subst (AllByRecursion Q) (sym (rows_with-known key new rows known)) (each-map Q (λ row. cond (has_id key (key new) row) new row) rows (each-weaken P (λ row. Q (cond (has_id key (key new) row) new row)) rows (λ row there. replaced_each new here row there (keeps row there) (has_id key (key new) row) refl) all))
      | inr unknown ↦ subst (AllByRecursion Q) (sym (rows_with-new key new rows unknown)) (each-push Q rows new (each-join P (λ row. has_id key (key new) row ≡ false) Q rows keeps all (lacks-unknown key (key new) rows unknown)) here)
    ]

    pub each-rows_without : (id : ℕ) (rows : List R) → AllByRecursion P rows → ((row : R) → P row → has_id key id row ≡ false → Q row) → AllByRecursion Q (rows_without key id rows)
    unfolding rows_without
    each-rows_without id [] all keeps = tt
    each-rows_without id (row ∷ rows) all keeps = by (has_id key id row) refl (each-rows_without id rows all.1 keeps)
      where
        by : (b : Bool) → has_id key id row ≡ b → AllByRecursion Q (filter (λ kept. not (has_id key id kept)) rows) → AllByRecursion Q (cond (not b) (row ∷ filter (λ kept. not (has_id key id kept)) rows) (filter (λ kept. not (has_id key id kept)) rows))
        by true is rest = rest
        by false is rest = (keeps row all.0 is, rest)

-- what holds where none is found may be weakened
pub FindsOr-weaken : {R : Type 0} (key : R → ℕ) (test : R → Bool) (P Q : Type 0) (rows : List R) (found : Option R) → (P → Q) → FindsOr key test P rows found → FindsOr key test Q rows found
FindsOr-weaken key test P Q rows None so holds = so holds
FindsOr-weaken key test P Q rows (Some row) so holds = holds

module _ {R : Type 0} (key number : R → ℕ) where
  apart_ids : (id : ℕ) (row : R) → has_id key id row ≡ false → (entry_of key number row).id ≢ id
  apart_ids id row apart is = true≢false (sym (eq-eqb id (key row) (sym is)) ∙ apart)

  pub AreNoted-nil : (index : IndexValue) → AreNoted key number index []
  unfolding AreNoted
  AreNoted-nil index = tt

  -- an index that notes alike serves alike
  pub AreNoted-alike : (index later : IndexValue) (rows : List R) → ((noted : IndexEntry) → is_noted noted later ≡ is_noted noted index) → AreNoted key number index rows → AreNoted key number later rows
  unfolding AreNoted
  AreNoted-alike index later rows alike noted =
      each-weaken (λ row. is_noted (entry_of key number row) index ≡ true) (λ row. is_noted (entry_of key number row) later ≡ true) rows (λ row there. alike (entry_of key number row) ∙ there) noted

  -- a row is put once the name of its id is forgotten and its own is noted
  pub AreNoted-put : (row : R) (rows : List R) (index forgotten later : IndexValue) → AreNoted key number index rows
      → ((noted : IndexEntry) → noted.id ≢ key row → is_noted noted forgotten ≡ is_noted noted index)
      → ((other : IndexEntry) → is_noted other later ≡ (same_entry other (entry_of key number row) || is_noted other forgotten))
      → AreNoted key number later (rows_with key row rows)
  unfolding AreNoted
  AreNoted-put row rows index forgotten later noted forgets notes =
      each-rows_with key (λ kept. is_noted (entry_of key number kept) index ≡ true) (λ kept. is_noted (entry_of key number kept) later ≡ true) row rows noted
      (λ kept there apart. notes (entry_of key number kept) ∙ ap (λ b. same_entry (entry_of key number kept) (entry_of key number row) || b) (forgets (entry_of key number kept) (apart_ids (key row) kept apart) ∙ there) ∙ or_true (same_entry (entry_of key number kept) (entry_of key number row)))
      (notes (entry_of key number row) ∙ ap (λ b. b || is_noted (entry_of key number row) forgotten) (same-refl the_row.coded (entry_of key number row)))

  -- a row is taken away once the name of its id is forgotten
  pub AreNoted-take : (id : ℕ) (rows : List R) (index forgotten : IndexValue) → AreNoted key number index rows
      → ((noted : IndexEntry) → noted.id ≢ id → is_noted noted forgotten ≡ is_noted noted index)
      → AreNoted key number forgotten (rows_without key id rows)
  unfolding AreNoted
  AreNoted-take id rows index forgotten noted forgets =
      each-rows_without key (λ kept. is_noted (entry_of key number kept) index ≡ true) (λ kept. is_noted (entry_of key number kept) forgotten ≡ true) id rows noted
      (λ kept there apart. forgets (entry_of key number kept) (apart_ids id kept apart) ∙ there)

  module _ (test : R → Bool) (rows : List R) where
    -- a row that is found under an id and passes the test is its row
    pub found_row : (id : ℕ) (row : R) → Some row ≡ row_of key id rows → row_of key (key row) rows ≡ Some row
    found_row id row found = ap (λ n. row_of key n rows) (sym (key-row_of key id row rows (sym found))) ∙ sym found

    -- and a row that fails it is missed
    pub missed_row : (id : ℕ) (row : R) → Some row ≡ row_of key id rows → test row ≡ false → named_row key test rows id ≡ None
    missed_row id row found fails_ = ap (passing key test) (sym found) ∙ ap (λ b. cond b (Some row) None) fails_

    -- where the first id of the name's number and all others miss, no row has the name
    module _ (index : IndexValue) (name : ℕ) (agree : (row : R) → test row ≡ true → number row ≡ name) (differ : IdsDiffer key rows) (firsts_differ : IdsDiffer entry_number index.firsts) where
      abbrev Misses : IndexEntry → Type 0
      Misses noted = IsMissed key test rows noted

      abbrev MissesFirst : Option IndexEntry → Type 0
      MissesFirst found = IsMissedFirst key test rows found

      missed_by : (row : R) → row_of key (key row) rows ≡ Some row → test row ≡ true → named_row key test rows (key row) ≡ None → ⊥
      missed_by row own passes missed =
          let contrary : None ≡ Some row = sym missed ∙ ap (passing key test) own ∙ ap (λ b. cond b (Some row) None) passes in cc

      fails : MissesFirst (row_of entry_number name index.firsts) → AllByRecursion Misses index.others → (row : R) → row_of key (key row) rows ≡ Some row → is_noted (entry_of key number row) index ≡ true → test row ≡ false
      fails first others row own noted = elim (cases_Bool (test row)) [
        | inr no_ ↦ no_
        | inl passes ↦ elim (cases_Bool (holds the_row.coded (entry_of key number row) index.firsts)) [
          | inl there ↦
              let found = ap (λ n. row_of entry_number n index.firsts) (sym (agree row passes)) ∙ held_row the_row.coded entry_number (entry_of key number row) index.firsts firsts_differ there in
              absurd (missed_by row own passes (subst MissesFirst found first))
          | inr away ↦
              absurd (missed_by row own passes (each_at the_row.coded Misses (entry_of key number row) index.others others (sym (ap (λ b. b || holds the_row.coded (entry_of key number row) index.others) away) ∙ noted)))
        ]
      ]

      pub Finds-none : AreNoted key number index rows → MissesFirst (row_of entry_number name index.firsts) → AllByRecursion Misses index.others → find test rows ≡ None
      unfolding AreNoted
      Finds-none noted first others =
          find-none test rows (each-join (λ row. row_of key (key row) rows ≡ Some row) (λ row. is_noted (entry_of key number row) index ≡ true) (λ row. test row ≡ false) rows (fails first others) (each-own key rows differ) noted)
