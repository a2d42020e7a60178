use Rattle.pol_table_rows.proofs.TablesLemmas.{placed-taken}
use Rattle.pol_table_rows.proofs.tables.Tables.take.Goals as goal

pub invariant_of-self : goal.invariant_of-self
invariant_of-self c =
    rw c.take-2.ensures.rows (placed-taken c.args.id c.self.inside.rows.rows c.self.inside.places.members c.take.new.self.members c.self.invariant c.take.ensures.taken)
