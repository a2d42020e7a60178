use Rattle.pol_table_rows.proofs.tables.TablesClone.clone.Goals as goal

pub invariant_of-result : goal.invariant_of-result
invariant_of-result c = rw (c.in_ok-rows.ensures.cases, c.in_ok-places.ensures.cases) c.self.invariant
