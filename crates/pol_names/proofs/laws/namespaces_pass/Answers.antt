use Rattle.pol_names.proofs.Levels.{IsNamespace-from_refusal, namespace_refusal-IsNamespace}
use Rattle.pol_names.proofs.laws.namespaces_pass.Goals as goal

pub returns : goal.returns
returns c levels utf8 = (IsNamespace-from_refusal levels utf8, namespace_refusal-IsNamespace levels)
