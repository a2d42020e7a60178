use Rattle.pol_tables.proofs.FactChangesLemmas.{fact_changes-append}
use Rattle.pol_tables.proofs.laws.appended_facts_are_put.Goals as goal

pub returns : goal.returns
returns g c = λ code cmp. fact_changes-append code cmp
