-- What a caller may do, as a search through the rows tells it.
use Rattle.std.specs.Prelude.{ℕ, Bool, true, false, not, ◌&&◌, ◌||◌, ◌==◌, List, Option, Some, None, codes}
use Rattle.std.specs.List.{list_any}
use Rattle.std.specs.Str.{bytes_eq}
use Rattle.pol_access.specs.Access.{AccessRows, principal_role_id}
use Rattle.pol_access.specs.Implication.{implies}
use Rattle.pol_access.specs.Privilege.{same_privilege}
use Rattle.pol_access.specs.Securable.{is_realm}
use Rattle.pol_access.specs.contracts.securable.Securable.{the_row}
use Rattle.pol_access.specs.declared.privilege.Privilege.{Privilege}
use Rattle.pol_access.specs.declared.privilege.Privilege.TheVariants.{ServiceManageAccess}
use Rattle.pol_access.specs.declared.rows.GrantRow.{GrantRow}
use Rattle.pol_access.specs.declared.rows.MemberRow.{MemberRow}
use Rattle.pol_access.specs.declared.rows.PrincipalRoleRow.{PrincipalRoleRow}
use Rattle.pol_access.specs.declared.securable.Securable.{Securable}
use Rattle.pol_names.specs.declared.scope.Scope.{Scope}
use Rattle.pol_names.specs.declared.scope.Scope.TheVariants as scope
use Rattle.pol_tables.specs.Same.{same}
use Rattle.pol_tables.specs.Table.{row_of}

-- whether the scope has the role
abbrev pub has_role : Scope → ℕ → Bool
has_role scope.All role = true
has_role (scope.Roles roles) role = list_any (λ kept. kept == role) roles

-- whether the chain has the securable
abbrev pub is_in : Securable → List Securable → Bool
is_in securable chain = list_any (λ kept. same the_row.coded kept securable) chain

-- whether the row that was found is that of `service_admin`
abbrev pub is_admin : Option PrincipalRoleRow → Bool
is_admin None = false
is_admin (Some row) = bytes_eq row.name (codes "service_admin")

-- whether the grant is the catalogue role's, of a privilege that implies the wanted one, and on what the chain has
-- below the realm
unfoldable pub covers : ℕ → Privilege → List Securable → GrantRow → Bool
covers catalog_role wanted chain grant =
    grant.catalog_role == catalog_role && (implies grant.privilege wanted && (not (is_realm grant.securable) && is_in grant.securable chain))

module _ (access : AccessRows) where
  unfoldable pub manages_service : ℕ → Privilege → List Securable → Bool
  manages_service role wanted chain =
      same_privilege wanted ServiceManageAccess && (list_any is_realm chain && is_admin (row_of principal_role_id role access.principal_roles))

  abbrev pub has_covering_grant : ℕ → Privilege → List Securable → Bool
  has_covering_grant catalog_role wanted chain = list_any (covers catalog_role wanted chain) access.grants

  unfoldable pub is_granted : ℕ → Privilege → List Securable → Bool
  is_granted role wanted chain =
      list_any (λ join. join.principal_role == role && has_covering_grant join.catalog_role wanted chain) access.joins

  unfoldable pub allows : ℕ → Scope → Privilege → List Securable → MemberRow → Bool
  allows principal session wanted chain member =
      member.principal == principal && (has_role session member.role && (manages_service member.role wanted chain || is_granted member.role wanted chain))

  unfoldable pub may : ℕ → Scope → Privilege → List Securable → Bool
  may principal session wanted chain = list_any (allows principal session wanted chain) access.members
