use Rattle.pol_tables.proofs.ReplayLemmas.{rows-replayed}
use Rattle.pol_tables.proofs.laws.changes_lead_to_rows.Goals as goal

pub returns : goal.returns
returns g c = λ code key. rows-replayed key code
