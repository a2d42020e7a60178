use Rattle.std.proofs.Common.{◌≡◌, drop}
use Rattle.pol_commit_actions.specs.Rules.{moved_onto}
use Rattle.pol_commit_actions.specs.Seen.{committed_tables}
use Rattle.pol_commit_actions.proofs.LoopLemmas.{onto_of}
use Rattle.pol_commit_actions.proofs.locations.all_apart.Given as goal

abbrev pub invariant-loop-table : goal.invariant-loop-table
invariant-loop-table l =
    onto_of l.asked.state.now.rows l.tables (drop l.table-index l.tables) ≡ moved_onto l.asked.state.now.rows (committed_tables l.tables)
