use Rattle.std.proofs.Common.{ap, ◌∙◌}
use Rattle.pol_access.proofs.SecurableLemmas.{compared-is}
use Rattle.pol_access.proofs.securable.Securable.is_same.Goals as goal

pub returns : goal.returns
returns c = c.eq.ensures ∙ ap (λ test. test c.args.self c.args.other) compared-is
