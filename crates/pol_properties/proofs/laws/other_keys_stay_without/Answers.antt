use Rattle.pol_properties.proofs.LookUpLemmas.{other_keys_stay_without as law}
use Rattle.pol_properties.proofs.laws.other_keys_stay_without.Goals as goal

pub returns : goal.returns
returns c = law
