use Rattle.pol_tables.proofs.ChangesLemmas.{table_changes-map}
use Rattle.pol_tables.proofs.laws.altered_rows_are_put.Goals as goal

pub returns : goal.returns
returns g c = λ code key. table_changes-map code key
