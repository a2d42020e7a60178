use Rattle.std.proofs.Common.{sym, ap, ◌∙◌, arith}
use Rattle.std.specs.List.{find}
use Rattle.pol_rules.proofs.NeedsLemmas.{at_unmet, first_is, is_unmet, past_all, past_met}
use Rattle.pol_rules.proofs.needs.first_unmet.Goals as goal

pub loop-need-init : goal.loop-need-init
loop-need-init c =
    let s = c.args.asked.now.state.now.rows in
    let command = c.args.asked.now.command.now in
    ap (λ time. find (is_unmet s time command.caller) c.args.needs.now) c.time_of-time.ensures ∙ first_is s command c.args.needs.now

pub returns-then-not-branch : goal.returns-then-not-branch
returns-then-not-branch c =
    at_unmet c.args.asked.now.state.now.rows c.time_of-time.result c.args.asked.now.command.now.caller c.args.needs.now c.loop-need.need-index _ c.loop-need-test.true (sym c.in_ok-caller_may.ensures ∙ c.if-not-branch.true)
    ∙ c.loop-need.invariant

pub loop-need-preserved : goal.loop-need-preserved
loop-need-preserved c =
    past_met c.args.asked.now.state.now.rows c.time_of-time.result c.args.asked.now.command.now.caller c.args.needs.now c.loop-need.need-index _ c.loop-need-test.true (sym c.in_ok-caller_may.ensures ∙ c.if-not-branch.false)
    ∙ c.loop-need.invariant

pub returns : goal.returns
returns c =
    past_all c.args.asked.now.state.now.rows c.time_of-time.result c.args.asked.now.command.now.caller c.args.needs.now c.loop-need.need-index (omega (arith, c.loop-need-test.false))
    ∙ c.loop-need.invariant
