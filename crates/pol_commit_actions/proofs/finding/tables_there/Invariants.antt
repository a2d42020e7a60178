use Rattle.std.proofs.Common.{◌≡◌, drop, length, take}
use Rattle.pol_commit_actions.specs.Replaced.{AreThere}
use Rattle.pol_commit_actions.specs.Rules.{commits_at, no_tables}
use Rattle.pol_commit_actions.specs.Seen.{commits_to}
use Rattle.pol_commit_actions.proofs.finding.tables_there.Given as goal

abbrev pub invariant-loop-commit : goal.invariant-loop-commit
invariant-loop-commit l = record {
  left : no_tables l.asked.state.now.rows (drop l.commit-index l.commits) l.catalog ≡ no_tables l.asked.state.now.rows l.commits l.catalog;
  found : commits_to l.targets.items ≡ commits_at l.asked.state.now.rows (take l.commit-index l.commits) l.catalog;
  there : AreThere l.asked.state.now.rows (commits_to l.targets.items);
  count : length l.targets.items ≡ l.commit-index;
}
