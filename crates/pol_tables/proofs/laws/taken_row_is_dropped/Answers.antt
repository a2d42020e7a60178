use Rattle.pol_tables.proofs.ChangesLemmas.{table_changes-take}
use Rattle.pol_tables.proofs.laws.taken_row_is_dropped.Goals as goal

pub returns : goal.returns
returns g c = λ code key. table_changes-take code key
