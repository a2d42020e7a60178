-- Rows and facts that belong to groups, and how many of them belong to each.
use Rattle.std.specs.Prelude.{◌≡◌, ◌≤◌, ℕ, nat_eq, Bool, List, length, Option, Some, None}
use Rattle.std.specs.List.{count_by, list_any, sum_by, AllByRecursion}
use Rattle.pol_tallies.specs.Tally.{TallyValue, count_of}

-- how often a group is among those of a row
abbrev pub times : ℕ → List ℕ → ℕ
times group groups = count_by (nat_eq group) groups

module _ {R : Type 0} (groups : R → List ℕ) where
  -- whether a row belongs to the group
  abbrev pub is_of : ℕ → R → Bool
  is_of group row = list_any (nat_eq group) (groups row)

  -- how often a group is among those of a row that may be there, and of all these rows
  abbrev pub times_of : ℕ → Option R → ℕ
  times_of group None = 0
  times_of group (Some row) = times group (groups row)

  abbrev pub times_in : ℕ → List R → ℕ
  times_in group rows = sum_by (λ row. times group (groups row)) rows

  -- each group is noted as often as it is among those of the rows, of which each has few
  pub record AreTallied (most : ℕ) (tally : TallyValue) (rows : List R) : Type 0 where
    pub counts : (group : ℕ) → count_of group tally ≡ times_in group rows
    pub few : AllByRecursion (λ row. length (groups row) ≤ most) rows
