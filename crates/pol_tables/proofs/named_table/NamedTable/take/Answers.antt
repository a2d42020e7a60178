use Rattle.pol_tables.proofs.NamedLemmas.{AreNoted-take}
use Rattle.pol_tables.proofs.named_table.NamedTable.take.Goals as goal

pub invariant_of-self : goal.invariant_of-self
invariant_of-self g c =
    rw c.take.ensures.rows (AreNoted-take g.R.Keyed.key g.R.Named.number c.args.id c.self.inside.table.rows c.self.inside.index c.forget.new.index c.self.invariant c.forget.ensures.others)
