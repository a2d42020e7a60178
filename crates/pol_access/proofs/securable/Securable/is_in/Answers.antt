use Rattle.std.proofs.Common.{ap, ◌∙◌}
use Rattle.std.specs.List.{list_any}
use Rattle.pol_access.proofs.SecurableLemmas.{compared-is}
use Rattle.pol_access.proofs.securable.Securable.is_in.Goals as goal

pub returns : goal.returns
returns c = c.contains.ensures.value ∙ ap (λ test. list_any (λ kept. test kept c.args.self) c.args.chain.now) compared-is
