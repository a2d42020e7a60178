use Rattle.std.proofs.Common.{◌∙◌, ap, map, sym, arith}
use Rattle.std.specs.Bool.{⊤}
use Rattle.pol_rules.proofs.JudgedLemmas.{seen-stopped}
use Rattle.pol_state.specs.Bounds.{first_refusal}
use Rattle.pol_commit_actions.specs.Rules.{any_unserved, unserved}
use Rattle.pol_commit_actions.proofs.LoopLemmas.{judging_unserved, over, past, stops}
use Rattle.pol_commit_actions.proofs.finding.all_served.Goals as goal

pub returns-in_err-each_served : goal.returns-in_err-each_served
returns-in_err-each_served c =
    let fails = ap (λ updates. first_refusal (map unserved updates)) (sym c.as_slice.ensures) ∙ c.in_err-each_served.ensures in
    seen-stopped (λ _. ⊤) (any_unserved c.args.commits.now) c.in_err-each_served.field-0.0 c.from_residual.result c.from_residual.ensures.1
    (sym c.loop-commit.invariant ∙ stops _ _ judging_unserved c.args.commits.now c.loop-commit.commit-index c.commit-item.result c.loop-commit-test.true c.commit-item.is c.in_err-each_served.field-0.0 fails)

pub loop-commit-preserved : goal.loop-commit-preserved
loop-commit-preserved c =
    past _ _ judging_unserved c.args.commits.now c.loop-commit.commit-index c.commit-item.result c.loop-commit-test.true c.commit-item.is (ap (λ updates. first_refusal (map unserved updates)) (sym c.as_slice.ensures) ∙ c.in_ok-each_served.ensures.0)
    ∙ c.loop-commit.invariant

pub returns : goal.returns
returns c = (
  sym c.loop-commit.invariant
      ∙ over _ _ judging_unserved c.args.commits.now c.loop-commit.commit-index (omega (arith, c.loop-commit-test.false)),
  tt,
)
