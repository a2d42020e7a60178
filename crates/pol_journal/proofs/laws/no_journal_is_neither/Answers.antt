use Rattle.pol_journal.proofs.SortLemmas.{neither}
use Rattle.pol_journal.proofs.laws.no_journal_is_neither.Goals as goal

pub returns : goal.returns
returns c = neither
