-- Adapters of the real world.
use Rattle.std.specs.Prelude.{ℕ}

-- what is adapted, and the count of its faults
pub record Counted (T : Type 0) : Type 0 where
  pub inner : T
  pub faults : ℕ
