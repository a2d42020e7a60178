use Rattle.pol_forms.proofs.laws.forms_read_back.Goals as goal

pub returns : goal.returns
returns g c = g.C.Coder.form.reads_back
