use Rattle.pol_metacodec.proofs.ToldLemmas.{metadata_told}
use Rattle.pol_metacodec.proofs.laws.metadata_with_forms_are_valid.Goals as goal

pub returns : goal.returns
returns c = metadata_told
