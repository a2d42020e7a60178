-- Rows that are found by a name, through an index from the numbers of names to ids.
use Rattle.std.specs.Prelude.{◌≡◌, ℕ, Bool, true, List, Option, Some, None, if◌then◌else◌}
use Rattle.std.specs.List.{find, AllByRecursion}
use Rattle.pol_tables.specs.Index.{IndexValue, is_noted}
use Rattle.pol_tables.specs.Table.{row_of}
use Rattle.pol_tables.specs.declared.index.IndexEntry.{IndexEntry}

module _ {R : Type 0} (key number : R → ℕ) where
  -- the row's id under the number of its name
  abbrev pub entry_of : R → IndexEntry
  entry_of row = record { number = number row; id = key row }

  -- the index has each row's id under the number of its name; ids that no row has may be left there
  unfoldable pub AreNoted : IndexValue → List R → Type 0
  AreNoted index rows = AllByRecursion (λ row. is_noted (entry_of row) index ≡ true) rows

module _ {R : Type 0} (key : R → ℕ) (test : R → Bool) where
  -- what was found, where it passes the test
  abbrev pub passing : Option R → Option R
  passing None = None
  passing (Some row) = if test row then Some row else None

  -- the row of an id, where it passes the test
  abbrev pub named_row : List R → ℕ → Option R
  named_row rows id = passing (row_of key id rows)

  -- the row of an id under a number is not there, or fails the test; and that of the first such id
  abbrev pub IsMissed : List R → IndexEntry → Type 0
  IsMissed rows noted = named_row rows noted.id ≡ None

  abbrev pub IsMissedFirst : List R → Option IndexEntry → Type 0
  IsMissedFirst rows None = Unit {0}
  IsMissedFirst rows (Some noted) = IsMissed rows noted

  -- a row that passes the test is found, or none and something holds
  abbrev pub FindsOr : Type 0 → List R → Option R → Type 0
  FindsOr holds rows None = holds
  FindsOr holds rows (Some row) = (row_of key (key row) rows ≡ Some row) × (test row ≡ true)

  -- a row that passes the test is found, and none only where no row does
  abbrev pub Finds : List R → Option R → Type 0
  Finds rows found = FindsOr (find test rows ≡ None) rows found
