use Rattle.std.proofs.Common.{◌∙◌, sym, arith}
use Rattle.std.specs.Bool.{⊤}
use Rattle.pol_rules.proofs.JudgedLemmas.{seen-stopped}
use Rattle.pol_commit_actions.specs.Rules.{any_over_limit}
use Rattle.pol_commit_actions.specs.Seen.{committed_tables}
use Rattle.pol_commit_actions.proofs.LoopLemmas.{judging_limits, over, past, stops}
use Rattle.pol_commit_actions.proofs.bounds.all_within.Goals as goal

pub returns-in_err-table_within : goal.returns-in_err-table_within
returns-in_err-table_within c =
    seen-stopped (λ _. ⊤) (any_over_limit (committed_tables c.args.tables.now)) c.in_err-table_within.field-0.0 c.from_residual.result c.from_residual.ensures.1
    (sym c.loop-table.invariant ∙ stops _ _ judging_limits c.args.tables.now c.loop-table.table-index c.table-item.result c.loop-table-test.true c.table-item.is c.in_err-table_within.field-0.0 c.in_err-table_within.ensures)

pub loop-table-preserved : goal.loop-table-preserved
loop-table-preserved c =
    past _ _ judging_limits c.args.tables.now c.loop-table.table-index c.table-item.result c.loop-table-test.true c.table-item.is c.in_ok-table_within.ensures.0
    ∙ c.loop-table.invariant

pub returns : goal.returns
returns c = (
  sym c.loop-table.invariant
      ∙ over _ _ judging_limits c.args.tables.now c.loop-table.table-index (omega (arith, c.loop-table-test.false)),
  tt,
)
