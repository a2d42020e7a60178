use Rattle.pol_access.specs.Access.{principal_id}
use Rattle.pol_access.specs.Names.{client_number}
use Rattle.pol_tables.proofs.NamedLemmas.{AreNoted-nil}
use Rattle.pol_access.proofs.principals.Principals.new.Goals as goal

pub invariant_of-result : goal.invariant_of-result
invariant_of-result c = rw c.new.ensures (AreNoted-nil principal_id client_number c.new-2.result)
