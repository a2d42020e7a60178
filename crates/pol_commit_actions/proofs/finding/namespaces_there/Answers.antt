use Rattle.std.proofs.Common.{◌∙◌, sym, arith}
use Rattle.pol_commit_actions.proofs.LoopLemmas.{judging_namespaces, over, past}
use Rattle.pol_commit_actions.proofs.finding.namespaces_there.Goals as goal

pub loop-commit-preserved : goal.loop-commit-preserved
loop-commit-preserved c =
    past _ _ (judging_namespaces c.args.asked.now.state.now.rows c.args.catalog.now) c.args.commits.now c.loop-commit.commit-index c.commit-item.result c.loop-commit-test.true c.commit-item.is c.in_ok-namespace_there.ensures.0
    ∙ c.loop-commit.invariant

pub returns : goal.returns
returns c = (
  sym c.loop-commit.invariant
      ∙ over _ _ (judging_namespaces c.args.asked.now.state.now.rows c.args.catalog.now) c.args.commits.now c.loop-commit.commit-index (omega (arith, c.loop-commit-test.false)),
  tt,
)
