use Rattle.pol_views.proofs.LawLemmas as lemmas
use Rattle.pol_views.proofs.laws.stays_valid.Goals as goal

pub returns : goal.returns
returns c = lemmas.stays_valid
