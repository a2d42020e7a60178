-- Lists of rows whose keys rise strictly.
use Rattle.std.specs.Prelude.{ℕ, ◌<◌, List, [], ◌∷◌, ⊤}
use Rattle.std.specs.List.{AllByRecursion}

module _ {R : Type 0} (key : R → ℕ) where
  -- each key is below the number
  abbrev pub KeysBelow : ℕ → List R → Type 0
  KeysBelow high rows = AllByRecursion (λ row. key row < high) rows

  -- each key is above the number
  abbrev pub KeysAbove : ℕ → List R → Type 0
  KeysAbove low rows = AllByRecursion (λ row. low < key row) rows

  -- each key is below those after it
  unfoldable pub KeysRise : List R → Type 0
  KeysRise [] = ⊤
  KeysRise (row ∷ rows) = KeysAbove (key row) rows × KeysRise rows
