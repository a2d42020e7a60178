use Rattle.pol_tables.proofs.ReplayLemmas.{row_of-replayed}
use Rattle.pol_tables.proofs.laws.changes_lead_to_rows_by_id.Goals as goal

pub returns : goal.returns
returns g c = λ code key. row_of-replayed key code
