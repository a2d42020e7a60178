use Rattle.std.proofs.Common.{sym, ◌∙◌}
use Rattle.pol_access.proofs.MayLemmas.{may-tells, may-told}
use Rattle.pol_access.proofs.access.Access.may.Goals as goal

pub returns : goal.returns
returns c = (
  λ so. may-tells c.args.self.now.rows c.args.principal c.args.scope.now c.args.wanted c.args.chain.now (sym c.finds_role.ensures ∙ so),
  λ so. c.finds_role.ensures ∙ may-told c.args.self.now.rows c.args.principal c.args.scope.now c.args.wanted c.args.chain.now so,
)
