-- Where two lists differ that have the same items up to the end of the shorter one.
use Rattle.std.proofs.Common.{◌≡◌, ◌≢◌, ℕ, List, length, take, min, arith}
use Rattle.std.proofs.lemmas.List.{take_all}
use Rattle.std.proofs.lemmas.Option.{slice_get_cases}
use Rattle.std.specs.List.{slice_get}

pub shorter_differs : (xs ys : List ℕ) (n : ℕ) → n ≡ min (length xs) (length ys) → take n xs ≡ take n ys → xs ≢ ys → slice_get xs n ≢ slice_get ys n
shorter_differs xs ys n shorter same different =
    grind (arith, slice_get_cases xs n, slice_get_cases ys n, take_all n xs, take_all n ys)
