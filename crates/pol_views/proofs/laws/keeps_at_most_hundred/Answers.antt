use Rattle.pol_views.proofs.LawLemmas as lemmas
use Rattle.pol_views.proofs.laws.keeps_at_most_hundred.Goals as goal

pub returns : goal.returns
returns c = lemmas.keeps_at_most_hundred
