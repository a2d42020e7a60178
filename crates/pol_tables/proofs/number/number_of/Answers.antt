use Rattle.std.proofs.Common.{rules}
use Rattle.pol_tables.specs.Number.{number_of}
use Rattle.pol_tables.proofs.number.number_of.Goals as goal

pub returns : goal.returns
unfolding number_of
returns g c = search rules
