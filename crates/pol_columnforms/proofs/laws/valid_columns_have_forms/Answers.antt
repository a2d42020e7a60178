use Rattle.pol_columnforms.proofs.HeldLemmas.{columns_held}
use Rattle.pol_columnforms.proofs.laws.valid_columns_have_forms.Goals as goal

pub returns : goal.returns
returns c = columns_held
