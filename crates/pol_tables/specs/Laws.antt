-- The laws of equality by code, of lists in order, and of the difference of two tables and of two sets of facts.
use Rattle.std.specs.Prelude.{◌≡◌, ◌↔◌, ℕ, Bool, true, false, not, List, [], ◌∷◌, ◌++◌, map, filter, Some}
use Rattle.std.specs.Cmp.{IsTotalOrder}
use Rattle.std.specs.Coded.{Coded}
use Rattle.std.specs.List.{AllByRecursion, IsDistinct, fold}
use Rattle.std.specs.List.Sorted.{IsPermutation, IsSorted, IsStable}
use Rattle.std.specs.declared.cmp.Ordering.{Ordering}
use Rattle.pol_tables.specs.Same.{same}
use Rattle.pol_tables.specs.Rising.{KeysBelow, KeysRise}
use Rattle.pol_tables.specs.Table.{knows, row_of, rows_with, rows_without, IdsDiffer}
use Rattle.pol_tables.specs.Facts.{holds, facts_with, facts_without}
use Rattle.pol_tables.specs.Changes.{table_changes, fact_changes, NewAreAbove, ActsOnRows, ActsOnFacts}
use Rattle.pol_tables.specs.Order.{in_order}

-- two values are the same by their code exactly where they are equal
abbrev pub CodesTellEquality : Type 0 → Type 0
CodesTellEquality T = (code : Coded T) (left right : T) → (same code left right ≡ true) ↔ (left ≡ right)

-- a list in order has the items, each as often; none is less than the one in front of it, and those that tie stay in
-- their order
abbrev pub ListsAreInOrder : Type 0 → Type 0
ListsAreInOrder T =
    (cmp : T → T → Ordering) → IsTotalOrder cmp → (items : List T) → IsPermutation items (in_order cmp items) × IsSorted cmp (in_order cmp items) × IsStable cmp items (in_order cmp items)

module _ (R Change : Type 0) where
  -- what holds of each difference of tables, for every code and key of the rows and every form of the changes
  abbrev OfTables : ((List R → List R → List Change) → Coded R → (R → ℕ) → (R → Change) → (ℕ → Change) → Type 0) → Type 0
  OfTables Law = (code : Coded R) (key : R → ℕ) (put : R → Change) (drop : ℕ → Change) → Law (table_changes code key put drop) code key put drop

  -- between a table and itself there is no change
  abbrev pub EqualTablesHaveNoChanges : Type 0
  EqualTablesHaveNoChanges = OfTables (λ changes code key put drop. (rows : List R) → changes rows rows ≡ [])

  -- a new row is put: here one above all others
  abbrev pub PushedRowIsPut : Type 0
  PushedRowIsPut = OfTables (λ changes code key put drop. (row : R) (rows : List R) → KeysBelow key (key row) rows → changes rows (rows ++ row ∷ []) ≡ put row ∷ [])

  -- new rows are put, in their order
  abbrev pub AppendedRowsArePut : Type 0
  AppendedRowsArePut = OfTables (λ changes code key put drop. (rows more : List R) → AllByRecursion (λ row. knows key (key row) rows ≡ false) more → changes rows (rows ++ more) ≡ map put more)

  -- a row that is altered under its id is put
  abbrev pub AlteredRowIsPut : Type 0
  AlteredRowIsPut = OfTables (λ changes code key put drop. (row old : R) (rows : List R) → IdsDiffer key rows → row_of key (key row) rows ≡ Some old → same code row old ≡ false → changes rows (rows_with key row rows) ≡ put row ∷ [])

  -- a row that is put as it stands changes nothing
  abbrev pub UnalteredRowChangesNothing : Type 0
  UnalteredRowChangesNothing = OfTables (λ changes code key put drop. (row : R) (rows : List R) → IdsDiffer key rows → row_of key (key row) rows ≡ Some row → changes rows (rows_with key row rows) ≡ [])

  -- of the rows that are altered under their ids, those that change are put, in their order
  abbrev pub AlteredRowsArePut : Type 0
  AlteredRowsArePut = OfTables (λ changes code key put drop. (alter : R → R) → ((row : R) → key (alter row) ≡ key row) → (rows : List R) → IdsDiffer key rows → changes rows (map alter rows) ≡ map put (map alter (filter (λ row. not (same code (alter row) row)) rows)))

  -- a row that is taken away is dropped
  abbrev pub TakenRowIsDropped : Type 0
  TakenRowIsDropped = OfTables (λ changes code key put drop. (id : ℕ) (row : R) (rows : List R) → IdsDiffer key rows → row_of key id rows ≡ Some row → changes rows (rows_without key id rows) ≡ drop id ∷ [])

  -- the rows that a filter leaves out are dropped, in their order
  abbrev pub FilteredRowsAreDropped : Type 0
  FilteredRowsAreDropped = OfTables (λ changes code key put drop. (keep : R → Bool) (rows : List R) → IdsDiffer key rows → changes rows (filter keep rows) ≡ map drop (map key (filter (λ row. not (keep row)) rows)))

  module _ (S : Type 0) where
    -- the rows of a state once it has met the changes between them and the new rows
    abbrev OfReplays : ((R → ℕ) → List R → List R → List R → Type 0) → Type 0
    OfReplays Law = (code : Coded R) (key : R → ℕ) (put : R → Change) (drop : ℕ → Change) (act : S → Change → S) (rows_in : S → List R) → ActsOnRows key put drop act rows_in → (state : S) (new : List R)
        → Law key (rows_in state) new (rows_in (fold act state (table_changes code key put drop (rows_in state) new)))

    -- the changes lead to the new rows, where ids rise and those that are new are above the others
    abbrev pub ChangesLeadToRows : Type 0
    ChangesLeadToRows = OfReplays (λ key old new after. KeysRise key old → KeysRise key new → NewAreAbove key old new → after ≡ new)

    -- the changes lead to the new row of each id, where ids differ
    abbrev pub ChangesLeadToRowsById : Type 0
    ChangesLeadToRowsById = OfReplays (λ key old new after. IdsDiffer key old → IdsDiffer key new → (id : ℕ) → row_of key id after ≡ row_of key id new)

module _ (T Change : Type 0) where
  -- what holds of each difference of sets, for every code and order of the facts and every form of the changes
  abbrev OfFacts : ((List T → List T → List Change) → Coded T → (T → T → Ordering) → (T → Change) → (T → Change) → Type 0) → Type 0
  OfFacts Law = (code : Coded T) (cmp : T → T → Ordering) (put drop : T → Change) → Law (fact_changes code cmp put drop) code cmp put drop

  -- between a set and itself there is no change
  abbrev pub EqualFactsHaveNoChanges : Type 0
  EqualFactsHaveNoChanges = OfFacts (λ changes code cmp put drop. (facts : List T) → changes facts facts ≡ [])

  -- a new fact is put
  abbrev pub NewFactIsPut : Type 0
  NewFactIsPut = OfFacts (λ changes code cmp put drop. (fact : T) (facts : List T) → holds code fact facts ≡ false → changes facts (facts_with code fact facts) ≡ put fact ∷ [])

  -- new facts are put, in rising order
  abbrev pub AppendedFactsArePut : Type 0
  AppendedFactsArePut = OfFacts (λ changes code cmp put drop. (facts more : List T) → AllByRecursion (λ fact. holds code fact facts ≡ false) more → changes facts (facts ++ more) ≡ map put (in_order cmp more))

  -- a fact that is taken away is dropped
  abbrev pub TakenFactIsDropped : Type 0
  TakenFactIsDropped = OfFacts (λ changes code cmp put drop. (fact : T) (facts : List T) → IsDistinct (same code) facts → holds code fact facts ≡ true → changes facts (facts_without code fact facts) ≡ drop fact ∷ [])

  -- the facts that a filter leaves out are dropped, in rising order
  abbrev pub FilteredFactsAreDropped : Type 0
  FilteredFactsAreDropped = OfFacts (λ changes code cmp put drop. (keep : T → Bool) (facts : List T) → changes facts (filter keep facts) ≡ map drop (in_order cmp (filter (λ fact. not (keep fact)) facts)))

  -- a state that has met the changes between its facts and the new ones holds the new ones and no others
  abbrev pub ChangesLeadToFacts : Type 0 → Type 0
  ChangesLeadToFacts S = (code : Coded T) (cmp : T → T → Ordering) (put drop : T → Change) (act : S → Change → S) (facts_in : S → List T) → ActsOnFacts code put drop act facts_in → (state : S) (new : List T) (fact : T)
      → holds code fact (facts_in (fold act state (fact_changes code cmp put drop (facts_in state) new))) ≡ holds code fact new
