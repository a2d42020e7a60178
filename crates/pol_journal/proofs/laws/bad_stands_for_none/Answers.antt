use Rattle.pol_journal.proofs.LawLemmas.{bad_for_none}
use Rattle.pol_journal.proofs.laws.bad_stands_for_none.Goals as goal

pub returns : goal.returns
returns c = bad_for_none
