-- Tables of rows by id: what contracts see of one, and the rows after each call.
use Rattle.std.specs.Prelude.{◌≡◌, ◌<◌, ℕ, nat_eq, Bool, true, false, not, if◌then◌else◌, List, [], ◌∷◌, ◌++◌, length, map, filter, Option, None, Some, HoldsAt}
use Rattle.std.specs.List.{find, list_any, IsDistinct}

-- the rows of a table in their order, and how many more of them need no memory
pub record TableValue (R : Type 0) : Type 0 where
  pub rows : List R
  pub room : ℕ

module _ {R : Type 0} (key : R → ℕ) where
  -- whether this is the row's id
  abbrev pub has_id : ℕ → R → Bool
  has_id id row = nat_eq id (key row)

  -- whether a row has this id
  abbrev pub knows : ℕ → List R → Bool
  knows id rows = list_any (has_id id) rows

  -- the row of this id
  abbrev pub row_of : ℕ → List R → Option R
  row_of id rows = find (has_id id) rows

  -- where the row of an id stands, if there is one
  abbrev pub IsPlace : ℕ → List R → Option ℕ → Type 0
  IsPlace id rows None = knows id rows ≡ false
  IsPlace id rows (Some place) = (place < length rows) × HoldsAt (λ row. has_id id row ≡ true) rows place

  -- no two rows have one id
  abbrev pub IdsDiffer : List R → Type 0
  IdsDiffer rows = IsDistinct nat_eq (map key rows)

  -- the rows once a row is put: a known id's row is replaced in its place, and a new id's row goes last
  unfoldable pub rows_with : R → List R → List R
  rows_with row rows =
      if knows (key row) rows then map (λ kept. if has_id (key row) kept then row else kept) rows else rows ++ row ∷ []

  -- the rows without that of the id
  unfoldable pub rows_without : ℕ → List R → List R
  rows_without id rows = filter (λ row. not (has_id id row)) rows
