use Rattle.std.proofs.Common.{ap, sym, take, ◌∙◌}
use Rattle.std.specs.List.{fold}
use Rattle.std.proofs.lemmas.List.Sums.{fold_more}
use Rattle.pol_content.specs.declared.change.Change.{Change}
use Rattle.pol_state.specs.Applied.{changed}
use Rattle.pol_state.specs.Rows.{Rows}
use Rattle.pol_opening.proofs.making.time_after.Goals as goal

pub loop-change-preserved : goal.loop-change-preserved
loop-change-preserved c s same =
    let before = c.loop-change.invariant s same in
    let changes = c.args.changes.now in
    let i = c.loop-change.change-index in
    c.time_by-time.ensures (fold changed s (take i changes)) (sym before)
    ∙ ap (λ (item : Change). (changed (fold changed s (take i changes)) item).time) c.change-item.is
    ∙ ap (λ (t : Rows). t.time) (sym (fold_more changed s changes i c.change-item.result c.loop-change-test.true))
