use Rattle.pol_access.specs.Access.{principal_id}
use Rattle.pol_access.specs.Names.{client_number}
use Rattle.pol_tables.proofs.NamedLemmas.{AreNoted-alike}
use Rattle.pol_access.proofs.principals.Principals.reserve.Goals as goal

pub invariant_of-self-2 : goal.invariant_of-self-2
invariant_of-self-2 c =
    rw c.reserve.ensures.rows (AreNoted-alike principal_id client_number c.self.inside.clients c.reserve-2.new.self c.self.inside.table.rows c.reserve-2.ensures.noted c.self.invariant)
