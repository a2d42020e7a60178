-- How often numbers are noted.
use Rattle.std.specs.Prelude.{ℕ, nat_eq, List}
use Rattle.std.specs.Map.{lookup}
use Rattle.std.specs.Option.{unwrap_or}

-- the counts of the numbers that are noted, in no promised order, and how many more times one can be noted without
-- taking memory
pub record TallyValue : Type 0 where
  pub counts : List (ℕ × ℕ)
  pub room : ℕ

-- how often a number is noted
abbrev pub count_of : ℕ → TallyValue → ℕ
count_of number tally = unwrap_or (lookup (nat_eq number) tally.counts) 0
