use Rattle.pol_journal.proofs.SortLemmas.{none_stands_or_is_bad}
use Rattle.pol_journal.proofs.laws.is_none_stands_or_is_bad.Goals as goal

pub returns : goal.returns
returns c = none_stands_or_is_bad
