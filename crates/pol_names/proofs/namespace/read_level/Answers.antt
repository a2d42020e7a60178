use Rattle.std.proofs.Common.{◌≡◌, arith, length}
use Rattle.std.proofs.lemmas.Grind.{common_steps}
use Rattle.pol_names.proofs.Levels.{refused_at_level}
use Rattle.pol_names.proofs.namespace.read_level.Goals as goal

pub returns-in-Err-clause-refused : goal.returns-in-Err-clause-refused
returns-in-Err-clause-refused c levels named bounded =
    let place : c.len.result ≡ length c.args.names.now.items = grind (arith, common_steps) in
    rw (c.at_level.ensures, place) (refused_at_level _ _ _ _ named bounded c.in-Err.ensures.refused)
