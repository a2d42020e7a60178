-- Ids under the numbers of names: what contracts see of an index, and what it tells.
use Rattle.std.specs.Prelude.{◌≡◌, ℕ, nat_eq, Bool, false, ◌||◌, List, Option, Some, None}
use Rattle.std.specs.Map.{lookup}
use Rattle.pol_tables.specs.Facts.{holds}
use Rattle.pol_tables.specs.Same.{same}
use Rattle.pol_tables.specs.Table.{row_of}
use Rattle.pol_tables.specs.contracts.index.IndexEntry.{the_row}
use Rattle.pol_tables.specs.declared.index.IndexEntry.{IndexEntry}

-- the first id of each number, the others, and how many more ids can be noted without taking memory
pub record IndexValue : Type 0 where
  pub firsts : List IndexEntry
  pub others : List IndexEntry
  pub room : ℕ

abbrev pub entry_number : IndexEntry → ℕ
entry_number noted = noted.number

-- what is found under a number has this number
abbrev pub StandByNumber : List (ℕ × IndexEntry) → Type 0
StandByNumber entries = (number : ℕ) (noted : IndexEntry) → lookup (nat_eq number) entries ≡ Some noted → number ≡ noted.number

-- whether two ids under numbers are the same
abbrev pub same_entry : IndexEntry → IndexEntry → Bool
same_entry left right = same the_row.coded left right

-- whether the id is noted under the number
abbrev pub is_noted : IndexEntry → IndexValue → Bool
is_noted noted index = holds the_row.coded noted index.firsts || holds the_row.coded noted index.others

-- whether it is the first of its number
abbrev pub same_found : IndexEntry → Option IndexEntry → Bool
same_found noted None = false
same_found noted (Some first) = same_entry first noted

abbrev pub is_first : IndexEntry → IndexValue → Bool
is_first noted index = same_found noted (row_of entry_number noted.number index.firsts)
