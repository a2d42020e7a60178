use Rattle.std.proofs.Common.{◌≡◌, drop}
use Rattle.std.specs.List.{find}
use Rattle.pol_rules.specs.Needs.{first_unmet}
use Rattle.pol_rules.proofs.NeedsLemmas.{is_unmet}
use Rattle.pol_rules.proofs.needs.first_unmet.Given as goal

-- the first that is not met is the first of those that are left
abbrev pub invariant-loop-need : goal.invariant-loop-need
invariant-loop-need l =
    find (is_unmet l.asked.state.now.rows l.time l.asked.command.now.caller) (drop l.need-index l.needs) ≡ first_unmet l.asked.state.now.rows l.asked.command.now l.needs
