use Rattle.pol_forms.proofs.LawLemmas.{wholes_exact}
use Rattle.pol_forms.proofs.laws.wholes_are_exact.Goals as goal

pub returns : goal.returns
returns g c = wholes_exact g.C.Coder.form
