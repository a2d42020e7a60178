-- The tests that principals and roles pass which may be put into a sound state: each is new, or stands in the place of its
-- own row. Each looks at the rows that it names alone.
use Rattle.std.specs.Prelude.{Bool, ◌&&◌, nat_eq, nat_lt, length, is_none, Option, Some, None}
use Rattle.std.specs.Str.{bytes_eq}
use Rattle.pol_access.specs.Access.{catalog_role_id, principal_id, principal_role_id}
use Rattle.pol_access.specs.Names.{catalog_role_named, principal_named, principal_of_client, principal_role_named}
use Rattle.pol_access.specs.declared.rows.CatalogRoleRow.{CatalogRoleRow}
use Rattle.pol_access.specs.declared.rows.PrincipalRoleRow.{PrincipalRoleRow}
use Rattle.pol_access.specs.declared.rows.PrincipalRow.{PrincipalRow}
use Rattle.pol_commands.specs.declared.reply.Quantity.TheVariants as quantity
use Rattle.pol_content.specs.Content.{catalog_id}
use Rattle.pol_access_steps.specs.Counters.{is_new_id}
use Rattle.pol_access_steps.specs.declared.counters.Counters.{Counters}
use Rattle.pol_state.specs.Bounds.{bound_of}
use Rattle.pol_state.specs.Rows.{Rows}
use Rattle.pol_tables.specs.Table.{knows, row_of}

-- a principal that may be put beside the others
abbrev pub is_principal_new : Rows → Counters → PrincipalRow → Bool
is_principal_new s counters row =
    is_new_id s counters row.id
    && (is_none (principal_named row.name s.access)
    && (is_none (principal_of_client row.client_id s.access)
    && nat_lt (length s.access.principals) (bound_of quantity.Principals)))

-- a principal with the name and the client id of another
abbrev pub keeps_names : PrincipalRow → PrincipalRow → Bool
keeps_names old row = bytes_eq row.name old.name && bytes_eq row.client_id old.client_id

-- a principal that may be put where this one has its id, or none has
abbrev pub may_be_principal : Rows → Counters → PrincipalRow → Option PrincipalRow → Bool
may_be_principal s counters row None = is_principal_new s counters row
may_be_principal s counters row (Some old) = keeps_names old row

abbrev pub may_put_principal : Rows → Counters → PrincipalRow → Bool
may_put_principal s counters row =
    may_be_principal s counters row (row_of principal_id row.id s.access.principals)

-- a principal role that may be put beside the others
abbrev pub is_role_new : Rows → Counters → PrincipalRoleRow → Bool
is_role_new s counters row =
    is_new_id s counters row.id
    && (is_none (principal_role_named row.name s.access)
    && nat_lt (length s.access.principal_roles) (bound_of quantity.PrincipalRoles))

-- a principal role that may be put where this one has its id, or none has: in its place it is the same
abbrev pub may_be_role : Rows → Counters → PrincipalRoleRow → Option PrincipalRoleRow → Bool
may_be_role s counters row None = is_role_new s counters row
may_be_role s counters row (Some old) = bytes_eq row.name old.name

abbrev pub may_put_role : Rows → Counters → PrincipalRoleRow → Bool
may_put_role s counters row =
    may_be_role s counters row (row_of principal_role_id row.id s.access.principal_roles)

-- a catalogue role that may be put beside the others, of a catalogue that is there
abbrev pub is_catalog_role_new : Rows → Counters → CatalogRoleRow → Bool
is_catalog_role_new s counters row =
    is_new_id s counters row.id
    && (knows catalog_id row.catalog s.content.catalogs
    && (is_none (catalog_role_named row.catalog row.name s.access)
    && nat_lt (length s.access.catalog_roles) (bound_of quantity.CatalogRoles)))

-- a catalogue role of the catalogue and the name of another
abbrev pub keeps_catalog : CatalogRoleRow → CatalogRoleRow → Bool
keeps_catalog old row = nat_eq row.catalog old.catalog && bytes_eq row.name old.name

-- a catalogue role that may be put where this one has its id, or none has: in its place it is the same
abbrev pub may_be_catalog_role : Rows → Counters → CatalogRoleRow → Option CatalogRoleRow → Bool
may_be_catalog_role s counters row None = is_catalog_role_new s counters row
may_be_catalog_role s counters row (Some old) = keeps_catalog old row

abbrev pub may_put_catalog_role : Rows → Counters → CatalogRoleRow → Bool
may_put_catalog_role s counters row =
    may_be_catalog_role s counters row (row_of catalog_role_id row.id s.access.catalog_roles)
