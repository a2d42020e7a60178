use Rattle.pol_access.proofs.PrivilegeLemmas.{implies-itself}
use Rattle.pol_access.proofs.laws.implication_is_reflexive.Goals as goal

pub returns : goal.returns
returns c = implies-itself
