use Rattle.pol_views.proofs.LawLemmas as lemmas
use Rattle.pol_views.proofs.laws.first_refused_is_told.Goals as goal

pub returns : goal.returns
returns c = lemmas.first_refused
