use Rattle.std.proofs.Common.{◌≡◌, ◌+◌, ◌∙◌, Ok, ap, arith, drop, sym}
use Rattle.pol_meta.specs.declared.metadata.TableMetadata.{TableMetadata}
use Rattle.pol_rules.specs.Rules.{time_of}
use Rattle.pol_rules.proofs.JudgedLemmas.{judged-stopped}
use Rattle.pol_commit_actions.specs.Outcome.{made_from, made_in, refused_by, told_at}
use Rattle.pol_commit_actions.specs.Seen.{commit_to, commits_to}
use Rattle.pol_commit_actions.proofs.OutcomeLemmas.{after_made, made_begun, made_more, made_stops, made_whole}
use Rattle.pol_commit_actions.proofs.outcome.all_made.Goals as goal

pub loop-table-init : goal.loop-table-init
loop-table-init c =
    made_begun (time_of c.args.asked.now.state.now.rows c.args.asked.now.command.now) c.args.targets.now
    ∙ ap (λ done. after_made done (made_from (time_of c.args.asked.now.state.now.rows c.args.asked.now.command.now) 0 (commits_to c.args.targets.now))) (sym c.in_ok-made.ensures.items)

pub returns-in_err-made_in : goal.returns-in_err-made_in
returns-in_err-made_in c =
    let time = time_of c.args.asked.now.state.now.rows c.args.asked.now.command.now in
    let targets = c.args.targets.now in
    let target = c.index-targets-table.result in
    let told = told_at c.loop-table.table (made_in time (commit_to target)) in
    judged-stopped {T = TableMetadata} (refused_by told) (refused_by (made_from time 0 (commits_to targets))) (λ meta. told ≡ Ok meta) _ c.in_err-made_in.field-0.0 c.from_residual-in_err-made_in.result c.from_residual-in_err-made_in.ensures.1
    (λ why fails. ap refused_by (c.loop-table.invariant ∙ made_stops time targets c.loop-table.made.items c.loop-table.table target why c.loop-table-test.true c.index-targets-table.is fails)) c.in_err-made_in.ensures

pub loop-table-preserved : goal.loop-table-preserved
loop-table-preserved c =
    let time = time_of c.args.asked.now.state.now.rows c.args.asked.now.command.now in
    let targets = c.args.targets.now in
    c.loop-table.invariant
    ∙ made_more time targets c.loop-table.made.items c.loop-table.table c.index-targets-table.result _ c.loop-table-test.true c.index-targets-table.is c.in_ok-made_in.ensures.1
    ∙ ap (λ done. after_made done (made_from time (c.loop-table.table + 1) (commits_to (drop (c.loop-table.table + 1) targets)))) (sym c.in_ok-push.ensures.items)

pub returns : goal.returns
returns c =
    let time = time_of c.args.asked.now.state.now.rows c.args.asked.now.command.now in
    let whole = c.loop-table.invariant ∙ made_whole time c.args.targets.now c.loop-table.made.items c.loop-table.table (omega (arith, c.loop-table-test.false)) in
    (ap refused_by whole, whole)
