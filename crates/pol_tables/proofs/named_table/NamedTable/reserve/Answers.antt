use Rattle.pol_tables.proofs.NamedLemmas.{AreNoted-alike}
use Rattle.pol_tables.proofs.named_table.NamedTable.reserve.Goals as goal

pub invariant_of-self-2 : goal.invariant_of-self-2
invariant_of-self-2 g c =
    rw c.reserve.ensures.rows (AreNoted-alike g.R.Keyed.key g.R.Named.number c.self.inside.index c.reserve-2.new.self c.self.inside.table.rows c.reserve-2.ensures.noted c.self.invariant)
