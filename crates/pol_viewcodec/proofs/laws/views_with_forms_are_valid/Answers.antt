use Rattle.pol_viewcodec.proofs.ToldLemmas.{view_told}
use Rattle.pol_viewcodec.proofs.laws.views_with_forms_are_valid.Goals as goal

pub returns : goal.returns
returns c = view_told
