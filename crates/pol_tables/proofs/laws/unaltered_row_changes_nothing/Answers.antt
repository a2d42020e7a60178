use Rattle.pol_tables.proofs.ChangesLemmas.{table_changes-put_same}
use Rattle.pol_tables.proofs.laws.unaltered_row_changes_nothing.Goals as goal

pub returns : goal.returns
returns g c = λ code key. table_changes-put_same code key
