use Rattle.std.proofs.Common.{option_copied}
use Rattle.pol_access.specs.Access.{client_id_of, principal_id}
use Rattle.pol_access.specs.Names.{has_client_id}
use Rattle.pol_access.proofs.NamesLemmas.{found-alone, names-once}
use Rattle.pol_access.proofs.access.Access.principal_of_client.Goals as goal

pub returns-clause-only : goal.returns-clause-only
returns-clause-only c differ =
    rw (← c.self.view_is) (found-alone (has_client_id c.args.client_id.now) principal_id c.self.inside.principals.rows (option_copied c.of_client.result) (names-once client_id_of c.args.client_id.now c.self.inside.principals.rows (rw (← c.self.view_is) at differ)) c.of_client.ensures)
