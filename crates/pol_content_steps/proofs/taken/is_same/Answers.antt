use Rattle.std.proofs.Common.{ap, ◌∙◌}
use Rattle.pol_tables.proofs.SameLemmas.{same-exact}
use Rattle.pol_content_steps.proofs.taken.is_same.Goals as goal

pub returns : goal.returns
returns g c =
    c.eq.ensures ∙ ap (λ test. test c.args.left.now c.args.right.now) (same-exact g.T.Fact.coded _ g.met.T.Exact.compares_exactly g.met.T.Eq.laws.refl)
