use Rattle.std.proofs.Common.{◌≡◌, drop}
use Rattle.pol_commit_actions.specs.Rules.{any_unserved}
use Rattle.pol_commit_actions.proofs.finding.all_served.Given as goal

abbrev pub invariant-loop-commit : goal.invariant-loop-commit
invariant-loop-commit l = any_unserved (drop l.commit-index l.commits) ≡ any_unserved l.commits
