use Rattle.pol_properties.proofs.LookUpLemmas.{removed_key_is_gone as law}
use Rattle.pol_properties.proofs.laws.removed_key_is_gone.Goals as goal

pub returns : goal.returns
returns c = law
