use Rattle.std.proofs.Common.{◌∙◌, sym, arith}
use Rattle.std.specs.Bool.{⊤}
use Rattle.pol_rules.proofs.JudgedLemmas.{seen-stopped}
use Rattle.pol_rules.proofs.JudgingLemmas.{over, past, stops}
use Rattle.pol_view_actions.specs.Replacing.{any_unserved}
use Rattle.pol_view_actions.proofs.FairLemmas.{judging_updates}
use Rattle.pol_view_actions.proofs.replacing.all_served.Goals as goal

pub returns-in_err-served : goal.returns-in_err-served
returns-in_err-served c =
    seen-stopped (λ _. ⊤) (any_unserved c.args.updates.now) c.in_err-served.field-0.0 c.from_residual.result c.from_residual.ensures.1
    (sym c.loop-update.invariant ∙ stops _ _ judging_updates c.args.updates.now c.loop-update.update-index c.update-item.result c.loop-update-test.true c.update-item.is c.in_err-served.field-0.0 c.in_err-served.ensures)

pub loop-update-preserved : goal.loop-update-preserved
loop-update-preserved c =
    past _ _ judging_updates c.args.updates.now c.loop-update.update-index c.update-item.result c.loop-update-test.true c.update-item.is c.in_ok-served.ensures.0
    ∙ c.loop-update.invariant

pub returns : goal.returns
returns c = (
  sym c.loop-update.invariant
      ∙ over _ _ judging_updates c.args.updates.now c.loop-update.update-index (omega (arith, c.loop-update-test.false)),
  tt,
)
