use Rattle.pol_properties.proofs.LookUpLemmas.{other_keys_stay as law}
use Rattle.pol_properties.proofs.laws.other_keys_stay.Goals as goal

pub returns : goal.returns
returns c = λ key pair pairs differs. law pair pairs key differs
