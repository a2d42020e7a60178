use Rattle.pol_locations.proofs.Prefixes.{Covers-antisym, Covers-refl, Covers-trans}
use Rattle.pol_locations.proofs.laws.cover_is_a_partial_order.Goals as goal

pub returns-clause-reflexive : goal.returns-clause-reflexive
returns-clause-reflexive c = Covers-refl

pub returns-clause-transitive : goal.returns-clause-transitive
returns-clause-transitive c = Covers-trans

pub returns-clause-antisymmetric : goal.returns-clause-antisymmetric
returns-clause-antisymmetric c = Covers-antisym
