use Rattle.pol_opening.proofs.LawLemmas.{one_gate}
use Rattle.pol_opening.proofs.laws.refused_at_one_gate.Goals as goal

pub returns : goal.returns
returns c = one_gate
