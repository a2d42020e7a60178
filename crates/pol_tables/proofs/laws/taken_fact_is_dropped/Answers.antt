use Rattle.pol_tables.proofs.FactChangesLemmas.{fact_changes-take}
use Rattle.pol_tables.proofs.laws.taken_fact_is_dropped.Goals as goal

pub returns : goal.returns
returns g c = λ code cmp. fact_changes-take code cmp
