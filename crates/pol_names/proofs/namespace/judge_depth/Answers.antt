use Rattle.std.proofs.Common.{arith}
use Rattle.std.proofs.lemmas.Grind.{common_steps}
use Rattle.pol_names.proofs.Levels.{too_deep}
use Rattle.pol_names.proofs.namespace.judge_depth.Goals as goal
use Rattle.pol_names.proofs.namespace.judge_depth.Goals.{then-count-eq0-via-then-count-eq0, then-count-eq0-via-else-count-eq0+then-count-gt-MAX_LEVELS}

pub returns-then-count-eq0-clause-refused : goal.returns-then-count-eq0-clause-refused
returns-then-count-eq0-clause-refused c levels is =
    too_deep levels c.args.count is
    (elim c.then-count-eq0.branch [
      | then-count-eq0-via-then-count-eq0 w ↦ grind (arith, common_steps)
      | then-count-eq0-via-else-count-eq0+then-count-gt-MAX_LEVELS w ↦ grind (arith, common_steps)
    ])
