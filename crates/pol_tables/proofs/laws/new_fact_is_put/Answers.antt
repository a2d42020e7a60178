use Rattle.pol_tables.proofs.FactChangesLemmas.{fact_changes-put_new}
use Rattle.pol_tables.proofs.laws.new_fact_is_put.Goals as goal

pub returns : goal.returns
returns g c = λ code cmp. fact_changes-put_new code cmp
