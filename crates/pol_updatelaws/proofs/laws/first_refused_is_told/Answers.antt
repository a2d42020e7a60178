use Rattle.pol_updatelaws.proofs.ListLemmas as lemmas
use Rattle.pol_updatelaws.proofs.laws.first_refused_is_told.Goals as goal

pub returns : goal.returns
returns c = lemmas.first_refused
