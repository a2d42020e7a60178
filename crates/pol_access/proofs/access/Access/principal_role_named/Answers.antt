use Rattle.std.proofs.Common.{option_copied}
use Rattle.pol_access.specs.Access.{principal_role_id, principal_role_name}
use Rattle.pol_access.specs.Names.{has_role_name}
use Rattle.pol_access.proofs.NamesLemmas.{found-alone, names-once}
use Rattle.pol_access.proofs.access.Access.principal_role_named.Goals as goal

pub returns-clause-only : goal.returns-clause-only
returns-clause-only c differ =
    rw (← c.self.view_is) (found-alone (has_role_name c.args.name.now) principal_role_id c.self.inside.principal_roles.rows (option_copied c.named.result) (names-once principal_role_name c.args.name.now c.self.inside.principal_roles.rows (rw (← c.self.view_is) at differ)) c.named.ensures)
