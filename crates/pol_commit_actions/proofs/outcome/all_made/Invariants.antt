use Rattle.std.proofs.Common.{◌≡◌, drop}
use Rattle.pol_rules.specs.Rules.{time_of}
use Rattle.pol_commit_actions.specs.Outcome.{made_from}
use Rattle.pol_commit_actions.specs.Seen.{commits_to}
use Rattle.pol_commit_actions.proofs.OutcomeLemmas.{after_made}
use Rattle.pol_commit_actions.proofs.outcome.all_made.Given as goal

abbrev pub invariant-loop-table : goal.invariant-loop-table
invariant-loop-table l =
    made_from (time_of l.asked.state.now.rows l.asked.command.now) 0 (commits_to l.targets)
    ≡ after_made l.made.items (made_from (time_of l.asked.state.now.rows l.asked.command.now) l.table (commits_to (drop l.table l.targets)))
