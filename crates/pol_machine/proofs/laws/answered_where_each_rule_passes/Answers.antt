use Rattle.std.proofs.Common.{ap}
use Rattle.pol_machine.specs.Machine.{acting, reply_by, reply_of, rules_of}
use Rattle.pol_machine.proofs.DecisionLemmas.{answered-none}
use Rattle.pol_state.proofs.BoundsLemmas.{refusal-none, EachPasses-none}
use Rattle.pol_machine.proofs.laws.answered_where_each_rule_passes.Goals as goal

pub returns : goal.returns
unfolding reply_of
returns c s command =
    let answer = (acting s command command.action).answer in (
      λ answered. EachPasses-none (rules_of s command) (answered-none _ answer answered),
      λ passes. ap (λ first. reply_by first answer) (refusal-none (rules_of s command) passes),
    )
