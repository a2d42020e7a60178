use Rattle.pol_properties.proofs.SetLemmas.{missing_keys_ascend as law}
use Rattle.pol_properties.proofs.laws.missing_keys_ascend.Goals as goal

pub returns : goal.returns
returns c = law
