-- Facts that are rows of a table, each under a number of its own.
use Rattle.std.specs.Prelude.{ℕ, List, map}
use Rattle.std.specs.Coded.{Coded}
use Rattle.std.specs.List.{IsDistinct}
use Rattle.pol_tables.specs.Rising.{KeysBelow, KeysRise}
use Rattle.pol_tables.specs.Same.{same}

module _ {R T : Type 0} (number : R → ℕ) (fact : R → T) (code : Coded T) where
  -- rows under rising numbers below the next one, of which no two have one fact
  pub record AreNumberedFacts (next : ℕ) (rows : List R) : Type 0 where
    pub below : KeysBelow number next rows
    pub rise : KeysRise number rows
    pub differ : IsDistinct (same code) (map fact rows)
