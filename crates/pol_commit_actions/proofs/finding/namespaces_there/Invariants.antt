use Rattle.std.proofs.Common.{◌≡◌, drop}
use Rattle.pol_commit_actions.specs.Rules.{no_namespaces}
use Rattle.pol_commit_actions.proofs.finding.namespaces_there.Given as goal

abbrev pub invariant-loop-commit : goal.invariant-loop-commit
invariant-loop-commit l =
    no_namespaces l.asked.state.now.rows (drop l.commit-index l.commits) l.catalog ≡ no_namespaces l.asked.state.now.rows l.commits l.catalog
