use Rattle.std.proofs.Common.{◌≡◌, drop, map}
use Rattle.pol_state.specs.Bounds.{first_refusal}
use Rattle.pol_commit_actions.specs.Rules.{unserved}
use Rattle.pol_commit_actions.proofs.finding.each_served.Given as goal

abbrev pub invariant-loop-update : goal.invariant-loop-update
invariant-loop-update l =
    first_refusal (map unserved (drop l.update-index l.updates)) ≡ first_refusal (map unserved l.updates)
