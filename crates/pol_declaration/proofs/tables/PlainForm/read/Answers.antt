use Rattle.std.proofs.Common.{Ok, ap, subst, sym, ◌∙◌}
use Rattle.pol_names.proofs.Refusals.{plain_refusal-IsPlainName}
use Rattle.pol_names.specs.Plain.{IsPlainName}
use Rattle.pol_declaration.specs.Tables.{plain_name}
use Rattle.pol_declaration.proofs.tables.PlainForm.read.Goals as goal

pub returns-in-Ok : goal.returns-in-Ok
unfolding plain_name
returns-in-Ok c =
    let named = subst IsPlainName c.as_str.ensures c.in-Ok.ensures.named in
    rw (c.in_ok-text.ensures, plain_refusal-IsPlainName _ named) (ap Ok (sym (c.in-Ok.ensures.value ∙ c.as_str.ensures)))
