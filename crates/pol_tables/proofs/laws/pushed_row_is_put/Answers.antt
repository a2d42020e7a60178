use Rattle.std.proofs.Common.{[], ◌∷◌}
use Rattle.pol_tables.proofs.RisingLemmas.{knows-below}
use Rattle.pol_tables.proofs.ChangesLemmas.{table_changes-append}
use Rattle.pol_tables.proofs.laws.pushed_row_is_put.Goals as goal

pub returns : goal.returns
returns g c = λ code key put drop row rows below. table_changes-append code key put drop rows (row ∷ []) (knows-below key (key row) rows below, tt)
