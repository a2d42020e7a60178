use Rattle.pol_properties.proofs.LookUpLemmas.{equal_look_ups_are_equal_maps as law}
use Rattle.pol_properties.proofs.laws.equal_look_ups_are_equal_maps.Goals as goal

pub returns : goal.returns
returns c = law
