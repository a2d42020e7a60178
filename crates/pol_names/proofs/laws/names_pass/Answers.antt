use Rattle.pol_names.proofs.Refusals.{IsName-from_refusal, name_refusal-IsName}
use Rattle.pol_names.proofs.laws.names_pass.Goals as goal

pub returns : goal.returns
returns c text utf8 = (IsName-from_refusal text utf8, name_refusal-IsName text)
