use Rattle.pol_init.proofs.FormLemmas.{form-hidden}
use Rattle.pol_init.proofs.record.first_record.Goals as goal

pub returns-clause-form : goal.returns-clause-form
returns-clause-form c = form-hidden c.args.state.now.rows c.requires c.in_ok-body.ensures.form
