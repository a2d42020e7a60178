use Rattle.pol_opening.proofs.LawLemmas.{not_refused}
use Rattle.pol_opening.proofs.laws.opened_are_not_refused.Goals as goal

pub returns : goal.returns
returns c = not_refused
