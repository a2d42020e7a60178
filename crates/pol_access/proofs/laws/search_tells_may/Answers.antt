use Rattle.pol_access.proofs.MayLemmas.{may-tells, may-told}
use Rattle.pol_access.proofs.laws.search_tells_may.Goals as goal

pub returns : goal.returns
returns c = λ access principal session wanted chain. (
  may-tells access principal session wanted chain,
  may-told access principal session wanted chain,
)
