use Rattle.pol_rules.proofs.ShownLemmas.{needs-shown}
use Rattle.pol_rules.proofs.laws.needs_are_shown.Goals as goal

pub returns : goal.returns
returns c = needs-shown
