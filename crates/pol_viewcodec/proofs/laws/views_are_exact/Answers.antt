use Rattle.pol_forms.proofs.LawLemmas.{wholes_exact}
use Rattle.pol_viewcodec.specs.Views.{view}
use Rattle.pol_viewcodec.proofs.laws.views_are_exact.Goals as goal

pub returns : goal.returns
returns c = wholes_exact view
