use Rattle.pol_properties.proofs.CutLemmas.{KeysAscend-nil}
use Rattle.pol_properties.proofs.properties.Properties.new.Goals as goal

pub invariant_of-result : goal.invariant_of-result
invariant_of-result c = rw c.new.ensures.items KeysAscend-nil
