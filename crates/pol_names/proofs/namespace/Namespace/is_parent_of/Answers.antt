use Rattle.std.proofs.Common.{arith}
use Rattle.std.proofs.lemmas.Grind.{common_steps}
use Rattle.pol_names.proofs.Levels.{parent_tested}
use Rattle.pol_names.proofs.namespace.Namespace.is_parent_of.Goals as goal

pub returns-then-len : goal.returns-then-len
returns-then-len c =
    parent_tested c.args.other.now c.args.self.now c.starts_with.result (grind (arith, common_steps)) (grind (arith, common_steps)) (grind (arith, common_steps))
