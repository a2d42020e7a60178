use Rattle.pol_journal.proofs.LawLemmas.{one_gate}
use Rattle.pol_journal.proofs.laws.is_bad_at_one_gate.Goals as goal

pub returns : goal.returns
returns c = one_gate
