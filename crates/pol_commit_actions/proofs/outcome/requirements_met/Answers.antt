use Rattle.std.proofs.Common.{◌∙◌, sym, arith}
use Rattle.std.specs.Bool.{⊤}
use Rattle.pol_rules.proofs.JudgedLemmas.{seen-stopped}
use Rattle.pol_commit_actions.specs.Outcome.{unmet_from}
use Rattle.pol_commit_actions.specs.Seen.{commits_to}
use Rattle.pol_commit_actions.proofs.LoopLemmas.{judging_unmet, over, past, stops}
use Rattle.pol_commit_actions.proofs.outcome.requirements_met.Goals as goal

pub returns-in_err-requirements_hold : goal.returns-in_err-requirements_hold
returns-in_err-requirements_hold c =
    seen-stopped (λ _. ⊤) (unmet_from 0 (commits_to c.args.targets.now)) c.in_err-requirements_hold.field-0.0 c.from_residual.result c.from_residual.ensures.1
    (sym c.loop-table.invariant ∙ stops _ _ judging_unmet c.args.targets.now c.loop-table.table c.index-targets-table.result c.loop-table-test.true c.index-targets-table.is c.in_err-requirements_hold.field-0.0 c.in_err-requirements_hold.ensures)

pub loop-table-preserved : goal.loop-table-preserved
loop-table-preserved c =
    past _ _ judging_unmet c.args.targets.now c.loop-table.table c.index-targets-table.result c.loop-table-test.true c.index-targets-table.is c.in_ok-requirements_hold.ensures.0
    ∙ c.loop-table.invariant

pub returns : goal.returns
returns c = (
  sym c.loop-table.invariant
      ∙ over _ _ judging_unmet c.args.targets.now c.loop-table.table (omega (arith, c.loop-table-test.false)),
  tt,
)
