use Rattle.std.proofs.Common.{◌||◌}
use Rattle.pol_tables.specs.Facts.{holds}
use Rattle.pol_tables.specs.contracts.index.IndexEntry.{the_row}
use Rattle.pol_tables.proofs.NamedLemmas.{AreNoted-alike}
use Rattle.pol_tables.proofs.named_table.NamedTableClone.clone.Goals as goal

pub invariant_of-result : goal.invariant_of-result
invariant_of-result g c =
    let index = c.in_ok-index.ensures.cases in
    rw c.in_ok-table.ensures.cases (AreNoted-alike g.R.Keyed.key g.R.Named.number c.self.inside.index c.in_ok-index.index c.self.inside.table.rows (λ noted i. holds the_row.coded noted (index.0 i) || holds the_row.coded noted (index.1 i)) c.self.invariant)
