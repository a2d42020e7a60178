use Rattle.std.proofs.Common.{◌∙◌, ap, sym, arith}
use Rattle.pol_commit_actions.specs.Overlaps.{lesser_over}
use Rattle.pol_commit_actions.proofs.LoopLemmas.{least-all, least-more, least-none}
use Rattle.pol_commit_actions.proofs.locations.overlapping_among.Goals as goal

pub loop-table-init : goal.loop-table-init
loop-table-init c = sym (least-none c.args.row.now)

pub loop-table-preserved : goal.loop-table-preserved
loop-table-preserved c =
    c.lesser_over-least.ensures
    ∙ ap (λ least. lesser_over c.args.row.now least c.table-item.result.after) c.loop-table.invariant
    ∙ least-more c.args.row.now c.args.tables.now c.loop-table.table-index c.table-item.result c.loop-table-test.true c.table-item.is

pub returns : goal.returns
returns c =
    c.loop-table.invariant ∙ least-all c.args.row.now c.args.tables.now c.loop-table.table-index (omega (arith, c.loop-table-test.false))
