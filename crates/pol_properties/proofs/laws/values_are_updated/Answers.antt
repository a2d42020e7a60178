use Rattle.pol_properties.proofs.LookUpLemmas.{values_are_updated as law}
use Rattle.pol_properties.proofs.laws.values_are_updated.Goals as goal

pub returns : goal.returns
returns c = law
