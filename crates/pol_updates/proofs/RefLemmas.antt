-- How a list of references is put together.
use Rattle.std.proofs.Common.{◌≡◌, List, [], ◌∷◌, ◌++◌}
use Rattle.std.proofs.lemmas.List.{append_assoc}

-- an item at the end of a list, and a list behind it
pub item_between : {A : Type 0} (low : List A) (item : A) (high : List A) → (low ++ item ∷ []) ++ high ≡ low ++ item ∷ high
item_between low item high = append_assoc low (item ∷ []) high
