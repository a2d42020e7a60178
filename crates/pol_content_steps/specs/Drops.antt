-- The tests that rows pass which changes may take from a sound state: the first takes the row, and the rest what names it.
use Rattle.std.specs.Prelude.{ℕ, Bool, false, not, ◌&&◌, nat_eq, if◌then◌else◌, List, Option, None, Some, codes}
use Rattle.std.specs.List.{list_all}
use Rattle.std.specs.Option.{option_map}
use Rattle.std.specs.Str.{bytes_eq}
use Rattle.pol_access.specs.Access.{catalog_role_id, catalog_role_name, principal_id, principal_name, principal_role_id, principal_role_name}
use Rattle.pol_access.specs.declared.referent.Referent.TheVariants as referent
use Rattle.pol_access.specs.declared.rows.CatalogRoleRow.{CatalogRoleRow}
use Rattle.pol_access.specs.declared.securable.Securable.TheVariants as securable
use Rattle.pol_content.specs.Content.{catalog_is_empty, is_empty}
use Rattle.pol_content.specs.declared.change.Change.{Change}
use Rattle.pol_content_steps.specs.Taken.{takes_along}
use Rattle.pol_state.specs.Rows.{Rows}
use Rattle.pol_tables.specs.Table.{row_of}

-- there is a name, and it isn't this one
abbrev pub has_other_name : List ℕ → Option (List ℕ) → Bool
has_other_name reserved None = false
has_other_name reserved (Some name) = not (bytes_eq reserved name)

-- a table and a view, with the grants on them
abbrev pub may_drop_table : Rows → ℕ → List Change → Bool
may_drop_table s id rest = takes_along (referent.Securable (securable.Table id)) s.access rest

abbrev pub may_drop_view : Rows → ℕ → List Change → Bool
may_drop_view s id rest = takes_along (referent.Securable (securable.View id)) s.access rest

-- a namespace that holds nothing, with the grants on it
abbrev pub may_drop_namespace : Rows → ℕ → List Change → Bool
may_drop_namespace s id rest =
    is_empty id s.content && takes_along (referent.Securable (securable.Namespace id)) s.access rest

-- a principal other than `root`, with its memberships
abbrev pub may_drop_principal : Rows → ℕ → List Change → Bool
may_drop_principal s id rest =
    has_other_name (codes "root") (option_map principal_name (row_of principal_id id s.access.principals))
    && takes_along (referent.Principal id) s.access rest

-- a principal role other than `service_admin`, with its members and joins
abbrev pub may_drop_principal_role : Rows → ℕ → List Change → Bool
may_drop_principal_role s id rest =
    has_other_name (codes "service_admin") (option_map principal_role_name (row_of principal_role_id id s.access.principal_roles))
    && takes_along (referent.PrincipalRole id) s.access rest

-- a catalogue role other than a `catalog_admin`, with its joins and grants
abbrev pub may_drop_catalog_role : Rows → ℕ → List Change → Bool
may_drop_catalog_role s id rest =
    has_other_name (codes "catalog_admin") (option_map catalog_role_name (row_of catalog_role_id id s.access.catalog_roles))
    && takes_along (referent.CatalogRole id) s.access rest

-- the role is the catalogue's where it has this id, and is not where it has another
abbrev pub is_alone : ℕ → ℕ → CatalogRoleRow → Bool
is_alone catalog only role =
    if nat_eq only role.id then nat_eq role.catalog catalog else not (nat_eq role.catalog catalog)

-- a catalogue that holds nothing, with its one role, and the joins and grants of this
abbrev pub may_drop_catalog : Rows → ℕ → ℕ → List Change → Bool
may_drop_catalog s id only rest =
    catalog_is_empty id s.content
    && (list_all (is_alone id only) s.access.catalog_roles && takes_along (referent.RoleOfCatalog id) s.access rest)
