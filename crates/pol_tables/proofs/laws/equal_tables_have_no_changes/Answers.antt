use Rattle.pol_tables.proofs.ChangesLemmas.{table_changes-itself}
use Rattle.pol_tables.proofs.laws.equal_tables_have_no_changes.Goals as goal

pub returns : goal.returns
returns g c = λ code key. table_changes-itself code key
