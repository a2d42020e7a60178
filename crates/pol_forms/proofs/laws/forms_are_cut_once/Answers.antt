use Rattle.pol_forms.proofs.LawLemmas.{cut_once}
use Rattle.pol_forms.proofs.laws.forms_are_cut_once.Goals as goal

pub returns : goal.returns
returns g c = cut_once g.C.Coder.form
