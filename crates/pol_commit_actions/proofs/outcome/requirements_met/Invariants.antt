use Rattle.std.proofs.Common.{◌≡◌, drop}
use Rattle.pol_commit_actions.specs.Outcome.{unmet_from}
use Rattle.pol_commit_actions.specs.Seen.{commits_to}
use Rattle.pol_commit_actions.proofs.outcome.requirements_met.Given as goal

abbrev pub invariant-loop-table : goal.invariant-loop-table
invariant-loop-table l =
    unmet_from l.table (commits_to (drop l.table l.targets)) ≡ unmet_from 0 (commits_to l.targets)
