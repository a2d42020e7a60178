use Rattle.std.proofs.Common.{◌≡◌, take}
use Rattle.pol_commit_actions.specs.Rules.{write_needs}
use Rattle.pol_commit_actions.proofs.finding.write_needs.Given as goal

abbrev pub invariant-loop-commit : goal.invariant-loop-commit
invariant-loop-commit l =
    l.needs.items ≡ write_needs l.asked.state.now.rows (take l.commit-index l.commits) l.catalog
