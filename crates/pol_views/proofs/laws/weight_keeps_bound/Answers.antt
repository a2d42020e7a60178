use Rattle.pol_views.proofs.BoundLemmas as lemmas
use Rattle.pol_views.proofs.laws.weight_keeps_bound.Goals as goal

pub returns : goal.returns
returns c = lemmas.weight_keeps_bound
