use Rattle.pol_tables.proofs.NamedLemmas.{AreNoted-nil}
use Rattle.pol_tables.proofs.named_table.NamedTable.new.Goals as goal

pub invariant_of-result : goal.invariant_of-result
invariant_of-result g c = rw c.new.ensures (AreNoted-nil g.R.Keyed.key g.R.Named.number c.new-2.result)
