-- The random words of drawn secrets.
use Rattle.std.specs.Prelude.{◌≡◌, ◌<◌, ℕ, List, [], length, Option}
use Rattle.pol_wire.specs.Faults.{Rises}
use Rattle.pol_wire.specs.Streams.{IsShifted}
use Rattle.pol_init.specs.declared.drawing.Undrawn.{Undrawn}
use Rattle.pol_init.specs.declared.drawing.Undrawn.TheVariants.{DrawFault, OutOfMemory}

-- so many words were drawn
pub record DrawsAll (before after : Option (ℕ → ℕ)) (count : ℕ) (words : List ℕ) : Type 0 where
  pub shifted : IsShifted before after words
  pub number : length words ≡ count

-- the draw failed behind fewer words
pub record DrawsFewer (before after : Option (ℕ → ℕ)) (count : ℕ) : Type 0 where
  pub drawn : List ℕ
  pub shifted : IsShifted before after drawn
  pub fewer : length drawn < count

-- why words weren't drawn: the draw failed in this call, or there was no memory, and then none was drawn
abbrev pub IsUndrawn : Option (ℕ → ℕ) → Option (ℕ → ℕ) → ℕ → ℕ → ℕ → Undrawn → Type 0
IsUndrawn before after old new count DrawFault = DrawsFewer before after count × Rises old new
IsUndrawn before after old new count OutOfMemory = IsShifted before after []
