use Rattle.std.proofs.Common.{option_copied}
use Rattle.pol_access.specs.Access.{catalog_role_id}
use Rattle.pol_access.specs.Names.{has_catalog_role_name, same_role_name}
use Rattle.pol_access.proofs.NamesLemmas.{first_found, roles_alike}
use Rattle.pol_access.proofs.access.Access.catalog_role_named.Goals as goal

pub returns-clause-only : goal.returns-clause-only
returns-clause-only c differ =
    rw (← c.self.view_is) (first_found catalog_role_id (has_catalog_role_name c.args.catalog c.args.name.now) same_role_name (roles_alike c.args.catalog c.args.name.now) c.self.inside.catalog_roles.rows (rw (← c.self.view_is) at differ) (option_copied c.named.result) c.named.ensures)
