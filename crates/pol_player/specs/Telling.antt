-- How many examples were played, how many of them differ, and what is told at last.
use Rattle.std.specs.Prelude.{◌≡◌, ℕ, ◌+◌, ◌-◌, ◌^◌, ◌++◌, ◌==◌, min, List, Option, Some, None, if◌then◌else◌, codes, decimal}
use Rattle.pol_values.specs.declared.difference.Difference.{Difference}
use Rattle.pol_examples.specs.declared.example.Example.{Example}
use Rattle.pol_player.specs.declared.telling.Played.{Played}
use Rattle.pol_player.specs.Playing.{IsOutcome}

-- the next count, which stands still at the last
abbrev pub next_count : ℕ → ℕ
next_count count = min (count + 1) (2 ^ 64 - 1)

-- the count of those that differ after one more was played
abbrev pub differing_after : ℕ → Option Difference → ℕ
differing_after count None = count
differing_after count (Some difference) = next_count count

-- an example was played and counted
pub record IsCounted (example : Example) (old new : Played) : Type 0 where
  pub difference : Option Difference
  pub outcome : IsOutcome example old.disks new.disks difference
  pub examples : new.examples ≡ next_count old.examples
  pub differing : new.differing ≡ differing_after old.differing difference

-- what is told at last
abbrev pub last_line : Played → List ℕ
last_line played =
    if played.differing == 0 then decimal played.examples ++ codes " examples agree"
    else decimal played.differing ++ (codes " of " ++ (decimal played.examples ++ codes " examples differ"))
