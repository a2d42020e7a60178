use Rattle.pol_tables.proofs.FactChangesLemmas.{holds-replayed}
use Rattle.pol_tables.proofs.laws.changes_lead_to_facts.Goals as goal

pub returns : goal.returns
returns g c = λ code cmp put drop. holds-replayed code cmp put drop
