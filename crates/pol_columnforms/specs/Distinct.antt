-- Whether the members of a list differ, as a test: as many of them differ as there are.
use Rattle.std.specs.Prelude.{◌≡◌, Bool, true, nat_eq, List, length}
use Rattle.std.specs.Cmp.{IsEquivalence}
use Rattle.std.specs.List.{IsDistinct}
use Rattle.std.specs.Set.{distinct_count}
use Rattle.std.proofs.lemmas.Bool.{eq-eqb, eqb-true}
use Rattle.std.proofs.lemmas.Map.Made.{IsDistinct-from_count, distinct_count-from_IsDistinct}

abbrev pub are_distinct : {K : Type 0} → (K → K → Bool) → List K → Bool
are_distinct same keys = nat_eq (distinct_count same keys) (length keys)

module _ {K : Type 0} {same : K → K → Bool} (laws : IsEquivalence same) where
  pub distinct-told : (keys : List K) → are_distinct same keys ≡ true → IsDistinct same keys
  distinct-told keys passes = IsDistinct-from_count laws keys (eqb-true (distinct_count same keys) (length keys) passes)

  pub told-distinct : (keys : List K) → IsDistinct same keys → are_distinct same keys ≡ true
  told-distinct keys differ = eq-eqb (distinct_count same keys) (length keys) (distinct_count-from_IsDistinct laws keys differ)
