use Rattle.pol_table_rows.proofs.tables.Tables.reserve.Goals as goal

pub invariant_of-self-2 : goal.invariant_of-self-2
invariant_of-self-2 c = rw (c.reserve.ensures.rows, c.reserve-2.ensures.members) c.self.invariant
