use Rattle.pol_forms.proofs.LawLemmas.{cut_once}
use Rattle.pol_viewcodec.specs.Views.{view}
use Rattle.pol_viewcodec.proofs.laws.views_are_cut_once.Goals as goal

pub returns : goal.returns
returns c = cut_once view
