use Rattle.std.proofs.Common.{arith}
use Rattle.std.proofs.lemmas.Grind.{common_steps}
use Rattle.pol_locations.proofs.Prefixes.{Covers-tested}
use Rattle.pol_locations.proofs.location.covers.Goals as goal

pub returns-clause-covers : goal.returns-clause-covers
returns-clause-covers c = Covers-tested c.args.a.now c.args.b.now c.starts_with.result (grind (arith, common_steps))
