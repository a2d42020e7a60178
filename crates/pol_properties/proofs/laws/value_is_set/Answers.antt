use Rattle.pol_properties.proofs.LookUpLemmas.{value_is_set as law}
use Rattle.pol_properties.proofs.laws.value_is_set.Goals as goal

pub returns : goal.returns
returns c = λ pair pairs. law pair pairs
