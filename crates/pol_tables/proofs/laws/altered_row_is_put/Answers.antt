use Rattle.pol_tables.proofs.ChangesLemmas.{table_changes-put_altered}
use Rattle.pol_tables.proofs.laws.altered_row_is_put.Goals as goal

pub returns : goal.returns
returns g c = λ code key. table_changes-put_altered code key
