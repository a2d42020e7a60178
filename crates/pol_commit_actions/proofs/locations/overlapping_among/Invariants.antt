use Rattle.std.proofs.Common.{◌≡◌, option_copied, take}
use Rattle.pol_commit_actions.specs.Outcome.{rows_after}
use Rattle.pol_commit_actions.specs.Overlaps.{least_over}
use Rattle.pol_commit_actions.specs.Seen.{committed_tables}
use Rattle.pol_commit_actions.proofs.locations.overlapping_among.Given as goal

abbrev pub invariant-loop-table : goal.invariant-loop-table
invariant-loop-table l =
    option_copied l.least ≡ least_over l.row (rows_after (committed_tables (take l.table-index l.tables)))
