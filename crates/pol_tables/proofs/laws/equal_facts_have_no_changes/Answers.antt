use Rattle.pol_tables.proofs.FactChangesLemmas.{fact_changes-itself}
use Rattle.pol_tables.proofs.laws.equal_facts_have_no_changes.Goals as goal

pub returns : goal.returns
returns g c = λ code cmp. fact_changes-itself code cmp
