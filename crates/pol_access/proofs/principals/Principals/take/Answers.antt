use Rattle.pol_access.specs.Access.{principal_id}
use Rattle.pol_access.specs.Names.{client_number}
use Rattle.pol_tables.proofs.NamedLemmas.{AreNoted-take}
use Rattle.pol_access.proofs.principals.Principals.take.Goals as goal

pub invariant_of-self : goal.invariant_of-self
invariant_of-self c =
    rw c.take.ensures.rows (AreNoted-take principal_id client_number c.args.id c.self.inside.table.rows c.self.inside.clients c.forget_client.new.clients c.self.invariant c.forget_client.ensures.others)
