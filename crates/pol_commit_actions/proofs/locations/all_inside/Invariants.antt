use Rattle.std.proofs.Common.{◌≡◌, drop}
use Rattle.pol_commit_actions.specs.Rules.{moved_outside}
use Rattle.pol_commit_actions.specs.Seen.{committed_tables}
use Rattle.pol_commit_actions.proofs.locations.all_inside.Given as goal

abbrev pub invariant-loop-table : goal.invariant-loop-table
invariant-loop-table l =
    moved_outside (committed_tables (drop l.table-index l.tables)) l.catalog ≡ moved_outside (committed_tables l.tables) l.catalog
