-- The tests that a new catalogue passes, with its role `catalog_admin`, the join of this to `service_admin`, and its two
-- grants, which changes may put into a sound state.
use Rattle.std.specs.Prelude.{ℕ, ◌+◌, Bool, false, ◌&&◌, nat_eq, nat_lt, length, codes, Option, Some, None, is_none}
use Rattle.std.specs.Str.{bytes_eq}
use Rattle.pol_access.specs.Names.{principal_role_named}
use Rattle.pol_access.specs.contracts.rows.GrantRow as grant
use Rattle.pol_access.specs.declared.privilege.Privilege.{Privilege}
use Rattle.pol_access.specs.declared.privilege.Privilege.TheVariants.{CatalogManageAccess, CatalogManageContent}
use Rattle.pol_access.specs.declared.rows.CatalogRoleRow.{CatalogRoleRow}
use Rattle.pol_access.specs.declared.rows.GrantRow.{GrantRow}
use Rattle.pol_access.specs.declared.rows.JoinRow.{JoinRow}
use Rattle.pol_access.specs.declared.rows.PrincipalRoleRow.{PrincipalRoleRow}
use Rattle.pol_access.specs.declared.securable.Securable.TheVariants as securable
use Rattle.pol_access_steps.specs.Counters.{is_new_id}
use Rattle.pol_access_steps.specs.declared.counters.Counters.{Counters}
use Rattle.pol_commands.specs.declared.reply.Quantity.TheVariants as quantity
use Rattle.pol_content.specs.Content.{catalog_named}
use Rattle.pol_content.specs.declared.rows.CatalogRow.{CatalogRow}
use Rattle.pol_sound_bounds.specs.Judged.{catalog_fits}
use Rattle.pol_state.specs.Bounds.{bound_of}
use Rattle.pol_state.specs.Rows.{Rows}
use Rattle.pol_tables.specs.Same.{same}

-- a catalogue that may be put beside the others
abbrev pub is_catalog_new : Rows → Counters → CatalogRow → Bool
is_catalog_new s counters row =
    is_new_id s counters row.id
    && (is_none (catalog_named row.name s.content)
    && (nat_lt (length s.content.catalogs) (bound_of quantity.Catalogs) && catalog_fits row))

-- the role `catalog_admin` of a catalogue, under the id after the catalogue's
abbrev pub is_next : ℕ → ℕ → Bool
is_next id next = nat_eq next (id + 1)

abbrev pub is_admin : ℕ → CatalogRoleRow → Bool
is_admin catalog role =
    is_next catalog role.id && (nat_eq role.catalog catalog && bytes_eq (codes "catalog_admin") role.name)

abbrev pub is_admin_new : Rows → Counters → ℕ → CatalogRoleRow → Bool
is_admin_new s counters catalog role =
    is_new_id s counters role.id
    && (is_admin catalog role && nat_lt (length s.access.catalog_roles) (bound_of quantity.CatalogRoles))

-- the join of a principal role, where it is there, to a catalogue role
abbrev pub is_join_of : Option PrincipalRoleRow → ℕ → JoinRow → Bool
is_join_of None role row = false
is_join_of (Some service) role row = nat_eq row.principal_role service.id && nat_eq row.catalog_role role

-- the join of `service_admin` to a catalogue role
abbrev pub is_join_new : Rows → ℕ → JoinRow → Bool
is_join_new s role row =
    is_join_of (principal_role_named (codes "service_admin") s.access) role row
    && nat_lt (length s.access.joins) (bound_of quantity.Joins)

-- the grant of a privilege on its own catalogue to a role
abbrev pub own_grant : Privilege → CatalogRoleRow → GrantRow
own_grant privilege role =
    record { catalog_role = role.id; privilege = privilege; securable = securable.Catalog role.catalog }

abbrev pub is_own_grant : Privilege → CatalogRoleRow → GrantRow → Bool
is_own_grant privilege role row = same grant.the_row.coded row (own_grant privilege role)

-- the grants of both privileges that a `catalog_admin` has
abbrev pub are_grants_new : Rows → CatalogRoleRow → GrantRow → GrantRow → Bool
are_grants_new s role first second =
    is_own_grant CatalogManageAccess role first
    && (is_own_grant CatalogManageContent role second && nat_lt (length s.access.grants + 1) (bound_of quantity.Grants))

-- a catalogue that may be put with its `catalog_admin`, the join and the grants of this
abbrev pub may_create_catalog : Rows → Counters → CatalogRow → CatalogRoleRow → JoinRow → GrantRow → GrantRow → Bool
may_create_catalog s counters row role join first second =
    is_catalog_new s counters row
    && (is_admin_new s counters row.id role && (is_join_new s role.id join && are_grants_new s role first second))
