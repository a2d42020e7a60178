use Rattle.pol_tables.proofs.FactChangesLemmas.{fact_changes-filter}
use Rattle.pol_tables.proofs.laws.filtered_facts_are_dropped.Goals as goal

pub returns : goal.returns
returns g c = λ code cmp. fact_changes-filter code cmp
