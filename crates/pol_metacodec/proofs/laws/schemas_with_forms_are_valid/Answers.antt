use Rattle.pol_metacodec.proofs.ToldLemmas.{schema_told}
use Rattle.pol_metacodec.proofs.laws.schemas_with_forms_are_valid.Goals as goal

pub returns : goal.returns
returns c = schema_told
