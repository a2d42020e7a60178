use Rattle.pol_columnforms.proofs.ToldLemmas.{columns_told}
use Rattle.pol_columnforms.proofs.laws.forms_are_those_of_valid_columns.Goals as goal

pub returns : goal.returns
returns c = columns_told
