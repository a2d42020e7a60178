-- Counts of faults.
use Rattle.std.specs.Prelude.{ℕ, ◌≡◌, ◌+◌, ◌-◌, ◌^◌, ◌<◌, ◌≤◌, ◌⊎◌, min, Bool, if◌then◌else◌, Result, OnErr, is_err}

-- a count after one more: at its last value it stands still
abbrev pub next_count : ℕ → ℕ
next_count n = min (n + 1) (2 ^ 64 - 1)

-- a count of faults after a call that failed or not
abbrev pub count_after : ℕ → Bool → ℕ
count_after count failed = if failed then next_count count else count

-- a count rose: it is greater than it was, or stands at its last value
abbrev pub Rises : ℕ → ℕ → Type 0
Rises old new = (old < new) ⊎ (new ≡ 2 ^ 64 - 1)

-- what a call that may fail owes of its object's count of faults: a call that is Ok leaves it, and a failure counts one
pub record CountsFaults {A E : Type 0} (old new : ℕ) (result : Result A E) : Type 0 where
  pub counted : new ≡ count_after old (is_err result)
  pub kept : old ≤ new
  pub bounded : new ≤ 2 ^ 64 - 1
  pub caused : OnErr result (Rises old new)
