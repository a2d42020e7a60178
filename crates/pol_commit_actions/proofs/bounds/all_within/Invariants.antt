use Rattle.std.proofs.Common.{◌≡◌, drop}
use Rattle.pol_commit_actions.specs.Rules.{any_over_limit}
use Rattle.pol_commit_actions.specs.Seen.{committed_tables}
use Rattle.pol_commit_actions.proofs.bounds.all_within.Given as goal

abbrev pub invariant-loop-table : goal.invariant-loop-table
invariant-loop-table l =
    any_over_limit (committed_tables (drop l.table-index l.tables)) ≡ any_over_limit (committed_tables l.tables)
