use Rattle.std.proofs.Common.{◌||◌}
use Rattle.pol_access.specs.Access.{principal_id}
use Rattle.pol_access.specs.Names.{client_number}
use Rattle.pol_tables.specs.Facts.{holds}
use Rattle.pol_tables.specs.contracts.index.IndexEntry.{the_row}
use Rattle.pol_tables.proofs.NamedLemmas.{AreNoted-alike}
use Rattle.pol_access.proofs.principals.PrincipalsClone.clone.Goals as goal

pub invariant_of-result : goal.invariant_of-result
invariant_of-result c =
    let clients = c.in_ok-clients.ensures.cases in
    rw c.in_ok-table.ensures.cases (AreNoted-alike principal_id client_number c.self.inside.clients c.in_ok-clients.clients c.self.inside.table.rows (λ noted i. holds the_row.coded noted (clients.0 i) || holds the_row.coded noted (clients.1 i)) c.self.invariant)
