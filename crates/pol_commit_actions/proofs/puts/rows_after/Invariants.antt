use Rattle.std.proofs.Common.{◌≡◌, filter, map}
use Rattle.pol_commit_actions.specs.Outcome.{CommittedTable}
use Rattle.pol_commit_actions.specs.Replaced.{is_changed}
use Rattle.pol_commit_actions.specs.Seen.{committed_tables}
use Rattle.pol_commit_actions.proofs.puts.rows_after.Given as goal

abbrev pub invariant-loop-table : goal.invariant-loop-table
invariant-loop-table l =
    l.rows.items ≡ map (λ (one : CommittedTable). one.after) (filter is_changed (committed_tables l.yielded))
