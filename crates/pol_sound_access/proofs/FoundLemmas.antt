-- Rows that are found by their ids and by their names.
use Rattle.std.proofs.Common.{◌≡◌, ℕ, Bool, true, cond, List, [], ◌∷◌, Option, None, Some, is_some, Result, Ok, Err, IfOk, sym, ap, ◌∙◌, inl, inr}
use Rattle.std.specs.List.{find, list_any}
use Rattle.std.proofs.lemmas.Bool.{cases_Bool, or_left, or_right}
use Rattle.pol_tables.specs.Named.{Finds}
use Rattle.pol_tables.specs.Table.{has_id, knows, row_of}
use Rattle.pol_tables.proofs.TableLemmas.{is_some-row_of, some_is}
use Rattle.pol_access.proofs.KeptLemmas.{none-found}

-- an id is known exactly where its row is found
pub known_row : {R : Type 0} (key : R → ℕ) (id : ℕ) (rows : List R) (found : Option R) → found ≡ row_of key id rows → knows key id rows ≡ is_some found
known_row key id rows found is = sym (is_some-row_of key id rows) ∙ ap is_some (sym is)

-- what is found passes a test where it does
found-any : {R : Type 0} (by test : R → Bool) (rows : List R) (row : R) → find by rows ≡ Some row → test row ≡ true → list_any test rows ≡ true
found-any by test [] row found passes = let contrary : None ≡ Some row = found in cc
found-any by test (first ∷ rows) row found passes = elim (cases_Bool (by first)) [
  | inl here ↦
      let is : first ≡ row = some_is first row (sym (ap (λ b. cond b (Some first) (find by rows)) here) ∙ found) in
      or_left (test first) (list_any test rows) (ap test is ∙ passes)
  | inr other ↦
      or_right (test first) (list_any test rows) (found-any by test rows row (sym (ap (λ b. cond b (Some first) (find by rows)) other) ∙ found) passes)
]

-- a row of a name is there exactly where one is found
pub named_row : {R : Type 0} (key : R → ℕ) (test : R → Bool) (rows : List R) (found : Option R) → Finds key test rows found → list_any test rows ≡ is_some found
named_row key test rows None none = none-found test rows none
named_row key test rows (Some row) is = found-any (has_id key (key row)) test rows row is.0 is.1

-- what is told of a value where there is one
pub if_ok : {A E : Type 0} (P Q : A → Type 0) (result : Result A E) → ((one : A) → P one → Q one) → IfOk result P → IfOk result Q
if_ok P Q (Ok one) so told = so one told
if_ok P Q (Err error) so told = told
