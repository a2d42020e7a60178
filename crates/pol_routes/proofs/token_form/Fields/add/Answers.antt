use Rattle.std.proofs.Common.{sym, ◌∙◌}
use Rattle.pol_routes.proofs.FieldLemmas.{fields_of_other}
use Rattle.pol_routes.proofs.token_form.Fields.add.Goals as goal

pub returns-in_default : goal.returns-in_default
returns-in_default c = λ form is.
    let other = c.in_default in
    is ∙ sym (fields_of_other form c.args.name.now c.args.value other.not-grant_type other.not-client_id other.not-client_secret other.not-scope)
