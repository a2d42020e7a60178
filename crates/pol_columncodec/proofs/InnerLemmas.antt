-- The columns at the head of a list that are deeper, and those that aren't.
use Rattle.std.proofs.Common.{◌≡◌, ◌≤◌, ◌+◌, ℕ, suc, Bool, true, false, not, cond, nat_le, nat_lt, List, [], ◌∷◌, length, take, drop, Some, None, refl, sym, arith}
use Rattle.std.specs.List.{count_by, position, position_or_len}
use Rattle.std.proofs.lemmas.Bool.{le-ltb, leb-false, leb-true, lt-ltb, ltb-false}
use Rattle.std.proofs.lemmas.List.Recursion.{is_count_by}
use Rattle.pol_meta.specs.declared.column.Column.{Column}
use Rattle.pol_columnforms.specs.Columns.{beside_of, chunks, inner_of}

flip_as : (a b : ℕ) (within : Bool) → nat_le b a ≡ within → nat_lt a b ≡ not within
flip_as a b true is = le-ltb a b (leb-true b a is)
flip_as a b false is = lt-ltb a b (leb-false b a is)

flip : (a b : ℕ) → nat_lt a b ≡ not (nat_le b a)
flip a b = flip_as a b (nat_le b a) refl

module _ (depth : ℕ) where
  abbrev pub is_beside : Column → Bool
  is_beside column = nat_le column.depth depth

  inner_step : (column : Column) (columns : List Column) (b : Bool) → is_beside column ≡ b
      → inner_of depth columns ≡ take (position_or_len is_beside columns) columns
      → inner_of depth (column ∷ columns) ≡ take (position_or_len is_beside (column ∷ columns)) (column ∷ columns)
  inner_step column columns true is later = rw (flip depth column.depth, is) refl
  inner_step column columns false is later =
      let next : 1 + position_or_len is_beside columns ≡ suc (position_or_len is_beside columns) = omega arith in
      rw (flip depth column.depth, is, later, next) refl

  pub inner_taken : (columns : List Column) → inner_of depth columns ≡ take (position_or_len is_beside columns) columns
  inner_taken [] = refl
  inner_taken (column ∷ columns) = inner_step column columns (is_beside column) refl (inner_taken columns)

  beside_step : (column : Column) (columns : List Column) (b : Bool) → is_beside column ≡ b
      → beside_of depth columns ≡ drop (position_or_len is_beside columns) columns
      → beside_of depth (column ∷ columns) ≡ drop (position_or_len is_beside (column ∷ columns)) (column ∷ columns)
  beside_step column columns true is later = rw (flip depth column.depth, is) refl
  beside_step column columns false is later =
      let next : 1 + position_or_len is_beside columns ≡ suc (position_or_len is_beside columns) = omega arith in
      rw (flip depth column.depth, is, later, next) refl

  pub beside_dropped : (columns : List Column) → beside_of depth columns ≡ drop (position_or_len is_beside columns) columns
  beside_dropped [] = refl
  beside_dropped (column ∷ columns) = beside_step column columns (is_beside column) refl (beside_dropped columns)

  within_step : (column : Column) (columns : List Column) (b : Bool) → is_beside column ≡ b
      → position_or_len is_beside columns ≤ length columns → position_or_len is_beside (column ∷ columns) ≤ length (column ∷ columns)
  within_step column columns true is later = rw is (omega arith)
  within_step column columns false is later = rw is (omega (arith, later))

  pub inner_within : (columns : List Column) → position_or_len is_beside columns ≤ length columns
  inner_within [] = omega arith
  inner_within (column ∷ columns) = within_step column columns (is_beside column) refl (inner_within columns)

  count_step : (column : Column) (columns : List Column) (b : Bool) → is_beside column ≡ b
      → length (chunks depth (column ∷ columns)) ≡ cond (is_beside column) (1 + length (chunks depth columns)) (length (chunks depth columns))
  count_step column columns true is =
      let next : 1 + length (chunks depth columns) ≡ suc (length (chunks depth columns)) = omega arith in
      rw (flip depth column.depth, is, next) refl
  count_step column columns false is = rw (flip depth column.depth, is) refl

  pub chunks_counted : (columns : List Column) → count_by is_beside columns ≡ length (chunks depth columns)
  chunks_counted columns =
      sym (is_count_by (λ (some : List Column). length (chunks depth some)) is_beside refl (λ column some. count_step column some (is_beside column) refl) columns)

-- a place that is found, and one that isn't
no_place : (place all : ℕ) → place ≤ all → (b : Bool) → nat_lt place all ≡ b → cond b (Some place) None ≡ None → all ≡ place
no_place place all within true under is = absurd (cc)
no_place place all within false under is = omega (arith, within, ltb-false place all under)

some_place : (place count all : ℕ) → (b : Bool) → nat_lt place all ≡ b → cond b (Some place) None ≡ Some count → count ≡ place
some_place place count all true under is = cc
some_place place count all false under is = absurd (cc)

pub found_first : (depth : ℕ) (columns : List Column) (count : ℕ) → position (is_beside depth) columns ≡ Some count → count ≡ position_or_len (is_beside depth) columns
found_first depth columns count is =
    some_place (position_or_len (is_beside depth) columns) count (length columns) (nat_lt (position_or_len (is_beside depth) columns) (length columns)) refl is

pub found_none : (depth : ℕ) (columns : List Column) → position (is_beside depth) columns ≡ None → length columns ≡ position_or_len (is_beside depth) columns
found_none depth columns is =
    no_place (position_or_len (is_beside depth) columns) (length columns) (inner_within depth columns) (nat_lt (position_or_len (is_beside depth) columns) (length columns)) refl is

pub ruleset parting = (inner_taken, beside_dropped, inner_within)

pub ruleset places = (found_first, found_none)
