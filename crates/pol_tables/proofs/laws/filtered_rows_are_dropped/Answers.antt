use Rattle.pol_tables.proofs.ChangesLemmas.{table_changes-filter}
use Rattle.pol_tables.proofs.laws.filtered_rows_are_dropped.Goals as goal

pub returns : goal.returns
returns g c = λ code key. table_changes-filter code key
