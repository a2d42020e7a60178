use Rattle.pol_tables.proofs.ChangesLemmas.{table_changes-append}
use Rattle.pol_tables.proofs.laws.appended_rows_are_put.Goals as goal

pub returns : goal.returns
returns g c = λ code key. table_changes-append code key
