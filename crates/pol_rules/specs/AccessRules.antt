-- Rules on principals, roles, members, joins and grants.
use Rattle.std.specs.Prelude.{ℕ, Bool, true, false, not, ◌&&◌, ◌||◌, List, ◌∷◌, Option, Some, None, is_none, codes, option_and_then}
use Rattle.std.specs.Option.{option_map, option_or}
use Rattle.std.specs.Str.{bytes_eq}
use Rattle.pol_access.specs.Access.{is_joined, is_member}
use Rattle.pol_access.specs.Names.{catalog_role_named, principal_named, principal_role_named}
use Rattle.pol_access.specs.Privilege.{same_privilege, text_of}
use Rattle.pol_access.specs.contracts.rows.GrantRow as grant_row
use Rattle.pol_access.specs.declared.privilege.Privilege.TheVariants.{CatalogManageAccess, CatalogManageContent}
use Rattle.pol_access.specs.declared.rows.CatalogRoleRow.{CatalogRoleRow}
use Rattle.pol_access.specs.declared.rows.GrantRow.{GrantRow}
use Rattle.pol_access.specs.declared.rows.JoinRow.{JoinRow}
use Rattle.pol_access.specs.declared.rows.MemberRow.{MemberRow}
use Rattle.pol_access.specs.declared.securable.Securable.{Securable}
use Rattle.pol_access.specs.declared.securable.Securable.TheVariants as securable
use Rattle.pol_commands.specs.declared.command.Command.{Command}
use Rattle.pol_commands.specs.declared.grants.Grant.{Grant}
use Rattle.pol_commands.specs.declared.grants.GrantedOn.{GrantedOn}
use Rattle.pol_commands.specs.declared.grants.GrantedOn.TheVariants as on
use Rattle.pol_commands.specs.declared.reply.Refusal.{Refusal}
use Rattle.pol_commands.specs.declared.reply.Refusal.TheVariants.{NoSuchRole, Reserved}
use Rattle.pol_content.specs.Chain.{namespace_at, table_at, view_at}
use Rattle.pol_content.specs.Content.{catalog_named}
use Rattle.pol_content.specs.declared.rows.CatalogRow.{CatalogRow}
use Rattle.pol_table_rows.specs.declared.row.TableRow.{TableRow}
use Rattle.pol_tables.specs.Facts.{holds}
use Rattle.pol_view_rows.specs.declared.row.ViewRow.{ViewRow}
use Rattle.pol_rules.specs.Needs.{forbidden, on_catalog, service}
use Rattle.pol_state.specs.Rows.{Rows}
use Rattle.pol_state.specs.Bounds.{refuse_if}
use Rattle.pol_rules.specs.Rules.{inside, no_catalogue, no_namespace, unauthenticated}
use Rattle.pol_rules.specs.TableRules.{no_table}
use Rattle.pol_rules.specs.ViewRules.{no_view}

-- the rules of an action that manages the realm, and of one that manages the access of a catalogue, before its own
abbrev pub in_realm : Rows → Command → List (Option Refusal) → List (Option Refusal)
in_realm s command rules = unauthenticated s command ∷ forbidden s command service ∷ rules

abbrev pub in_catalog : Rows → Command → List ℕ → List (Option Refusal) → List (Option Refusal)
in_catalog s command name rules =
    unauthenticated s command ∷ no_catalogue s name ∷ inside s name (λ catalog. forbidden s command (on_catalog CatalogManageAccess catalog)) ∷ rules

-- no principal, no principal role and no role of a catalogue has the name
unfoldable pub no_principal : Rows → List ℕ → Option Refusal
no_principal s name = refuse_if (is_none (principal_named name s.access)) (NoSuchRole name)

unfoldable pub no_principal_role : Rows → List ℕ → Option Refusal
no_principal_role s name = refuse_if (is_none (principal_role_named name s.access)) (NoSuchRole name)

unfoldable pub no_catalog_role : Rows → List ℕ → CatalogRow → Option Refusal
no_catalog_role s name catalog = refuse_if (is_none (catalog_role_named catalog.id name s.access)) (NoSuchRole name)

-- what a grant names in a catalogue isn't there: a namespace, or, in a namespace that is, a table or a view
abbrev pub no_securable : Rows → GrantedOn → CatalogRow → Option Refusal
no_securable s on.Catalog catalog = None
no_securable s (on.Namespace levels) catalog = no_namespace s catalog.id levels
no_securable s (on.Table identifier) catalog = option_or (no_namespace s catalog.id identifier.namespace) (no_table s identifier catalog)
no_securable s (on.View identifier) catalog = option_or (no_namespace s catalog.id identifier.namespace) (no_view s identifier catalog)

-- what is made of two things that were found
abbrev pub of_both : {A B C : Type 0} → (A → B → C) → Option A → Option B → Option C
of_both make one other = option_and_then (λ found. option_map (make found) other) one

-- the role of a name in the catalogue of a name
abbrev pub catalog_role_at : Rows → List ℕ → List ℕ → Option CatalogRoleRow
catalog_role_at s catalog name =
    option_and_then (λ (row : CatalogRow). catalog_role_named row.id name s.access) (catalog_named catalog s.content)

-- the membership of a principal in a role, each named by its name
unfoldable pub member_of : Rows → List ℕ → List ℕ → Option MemberRow
member_of s principal role =
    of_both (λ one of. record { principal = one.id; role = of.id }) (principal_named principal s.access) (principal_role_named role s.access)

-- the join of a principal role to a catalogue role
unfoldable pub join_of : Rows → List ℕ → List ℕ → List ℕ → Option JoinRow
join_of s catalog role catalog_role =
    of_both (λ one to. record { principal_role = one.id; catalog_role = to.id }) (principal_role_named role s.access) (catalog_role_at s catalog catalog_role)

-- the securable of a name in a catalogue
abbrev pub securable_in : Rows → GrantedOn → CatalogRow → Option Securable
securable_in s on.Catalog catalog = Some (securable.Catalog catalog.id)
securable_in s (on.Namespace levels) catalog = namespace_at catalog.id s.content levels
securable_in s (on.Table identifier) catalog =
    option_map (λ (row : TableRow). securable.Table row.id) (table_at catalog.id identifier.namespace identifier.name s.content)
securable_in s (on.View identifier) catalog =
    option_map (λ (row : ViewRow). securable.View row.id) (view_at catalog.id identifier.namespace identifier.name s.content)

abbrev pub securable_at : Rows → List ℕ → GrantedOn → Option Securable
securable_at s catalog named = option_and_then (securable_in s named) (catalog_named catalog s.content)

-- a grant to a catalogue role
unfoldable pub grant_of : Rows → List ℕ → List ℕ → Grant → Option GrantRow
grant_of s catalog role grant =
    of_both (λ to one. record { catalog_role = to.id; privilege = grant.privilege; securable = one }) (catalog_role_at s catalog role) (securable_at s catalog grant.on)

-- the membership isn't there, nor the join, nor the grant: told by the role that it would lead to, and by the privilege
unfoldable pub no_member : Rows → List ℕ → MemberRow → Option Refusal
no_member s role row = refuse_if (not (is_member row.principal row.role s.access)) (NoSuchRole role)

unfoldable pub no_join : Rows → List ℕ → JoinRow → Option Refusal
no_join s catalog_role row = refuse_if (not (is_joined row.principal_role row.catalog_role s.access)) (NoSuchRole catalog_role)

unfoldable pub no_grant : Rows → GrantRow → Option Refusal
no_grant s row = refuse_if (not (holds grant_row.the_row.coded row s.access.grants)) (NoSuchRole (text_of row.privilege))

-- what `root` needs is kept: `root` itself, its role, and its membership there
unfoldable pub reserved : List ℕ → List ℕ → Option Refusal
reserved kept name = refuse_if (bytes_eq name kept) (Reserved kept)

unfoldable pub reserved_member : List ℕ → List ℕ → Option Refusal
reserved_member principal role =
    refuse_if (bytes_eq principal (codes "root") && bytes_eq role (codes "service_admin")) (Reserved (codes "root"))

-- and so is the join of its role to each `catalog_admin`, and that one's two first grants
unfoldable pub reserved_join : List ℕ → List ℕ → Option Refusal
reserved_join role catalog_role =
    refuse_if (bytes_eq role (codes "service_admin") && bytes_eq catalog_role (codes "catalog_admin")) (Reserved (codes "catalog_admin"))

abbrev pub is_catalog : GrantedOn → Bool
is_catalog on.Catalog = true
is_catalog (on.Namespace levels) = false
is_catalog (on.Table identifier) = false
is_catalog (on.View identifier) = false

abbrev pub is_first : Grant → Bool
is_first grant =
    is_catalog grant.on && (same_privilege grant.privilege CatalogManageAccess || same_privilege grant.privilege CatalogManageContent)

unfoldable pub reserved_grant : List ℕ → Grant → Option Refusal
reserved_grant role grant =
    refuse_if (bytes_eq role (codes "catalog_admin") && is_first grant) (Reserved (codes "catalog_admin"))
