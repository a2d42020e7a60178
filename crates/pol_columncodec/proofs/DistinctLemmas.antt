-- A set of keys has as many as differ.
use Rattle.std.proofs.Common.{◌≡◌, Bool, List, length, nat_eq, ap}
use Rattle.std.specs.Cmp.{IsEquivalence}
use Rattle.std.proofs.lemmas.Map.Made.{hash_set_len-from_list}
use Rattle.indexmap.specs.IndexSet.{IndexSet, IsFromIterResult, index_set_len}
use Rattle.pol_columnforms.specs.Distinct.{are_distinct}

pub counted : {K S : Type 0} {same : K → K → Bool} (laws : IsEquivalence same) (keys : List K) (set : IndexSet K S) → IsFromIterResult same keys set
    → nat_eq (index_set_len set) (length keys) ≡ are_distinct same keys
counted {K} {S} {same} laws keys set made = ap (λ n. nat_eq n (length keys)) (hash_set_len-from_list laws keys set made)
