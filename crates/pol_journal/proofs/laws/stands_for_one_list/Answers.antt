use Rattle.pol_journal.proofs.LawLemmas.{one_list}
use Rattle.pol_journal.proofs.laws.stands_for_one_list.Goals as goal

pub returns : goal.returns
returns c = one_list
