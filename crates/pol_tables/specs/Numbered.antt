-- Lists of rows whose ids rise and were given out by a counter.
use Rattle.std.specs.Prelude.{◌<◌, ◌≤◌, ℕ, List}
use Rattle.std.specs.List.{AllByRecursion}
use Rattle.pol_tables.specs.Rising.{KeysRise}

-- an id that was given out: from 1 to below the next one
abbrev pub IsGiven : ℕ → ℕ → Type 0
IsGiven next_id id = (1 ≤ id) × (id < next_id)

-- rows whose ids rise and were given out
pub record AreNumbered {R : Type 0} (key : R → ℕ) (next_id : ℕ) (rows : List R) : Type 0 where
  pub rise : KeysRise key rows
  pub given : AllByRecursion (λ row. IsGiven next_id (key row)) rows
