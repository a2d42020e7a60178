use Rattle.pol_updatelaws.proofs.ValidLemmas as lemmas
use Rattle.pol_updatelaws.proofs.laws.stays_valid.Goals as goal

pub returns : goal.returns
returns c = lemmas.stays_valid
