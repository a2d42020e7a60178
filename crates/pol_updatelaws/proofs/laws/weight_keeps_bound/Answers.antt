use Rattle.pol_updatelaws.proofs.WeightLemmas as lemmas
use Rattle.pol_updatelaws.proofs.laws.weight_keeps_bound.Goals as goal

pub returns : goal.returns
returns c = lemmas.weight_keeps_bound
