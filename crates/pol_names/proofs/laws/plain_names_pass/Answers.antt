use Rattle.pol_names.proofs.Refusals.{IsPlainName-from_refusal, plain_refusal-IsPlainName}
use Rattle.pol_names.proofs.laws.plain_names_pass.Goals as goal

pub returns : goal.returns
returns c text = (IsPlainName-from_refusal text, plain_refusal-IsPlainName text)
