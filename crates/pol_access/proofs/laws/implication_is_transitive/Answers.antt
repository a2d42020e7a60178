use Rattle.pol_access.proofs.PrivilegeLemmas.{implies-through}
use Rattle.pol_access.proofs.laws.implication_is_transitive.Goals as goal

pub returns : goal.returns
returns c = implies-through
