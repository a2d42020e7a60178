use Rattle.pol_readers.specs.Exactness.{bodies_exact}
use Rattle.pol_metajson.specs.Table.{create_table}
use Rattle.pol_metajson.proofs.laws.create_tables_are_exact.Goals as goal

pub returns : goal.returns
returns c = bodies_exact create_table.exact
