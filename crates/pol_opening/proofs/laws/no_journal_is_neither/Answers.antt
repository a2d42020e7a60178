use Rattle.pol_opening.proofs.LawLemmas.{neither}
use Rattle.pol_opening.proofs.laws.no_journal_is_neither.Goals as goal

pub returns : goal.returns
returns c = neither
