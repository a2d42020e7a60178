use Rattle.pol_properties.proofs.SetLemmas.{missing_keys_are_those as law}
use Rattle.pol_properties.proofs.laws.missing_keys_are_those.Goals as goal

pub returns : goal.returns
returns c = law
