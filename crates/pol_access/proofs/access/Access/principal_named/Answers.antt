use Rattle.std.proofs.Common.{option_copied}
use Rattle.pol_access.specs.Access.{principal_id, principal_name}
use Rattle.pol_access.specs.Names.{has_name}
use Rattle.pol_access.proofs.NamesLemmas.{found-alone, names-once}
use Rattle.pol_access.proofs.access.Access.principal_named.Goals as goal

pub returns-clause-only : goal.returns-clause-only
returns-clause-only c differ =
    rw (← c.self.view_is) (found-alone (has_name c.args.name.now) principal_id c.self.inside.principals.rows (option_copied c.named.result) (names-once principal_name c.args.name.now c.self.inside.principals.rows (rw (← c.self.view_is) at differ)) c.named.ensures)
