-- What a caller may do.
use Rattle.std.specs.Prelude.{◌≡◌, ◌≢◌, ◌⊎◌, ℕ, true, List, Some, codes}
use Rattle.std.specs.Bool.{⊤}
use Rattle.std.specs.List.{Contains}
use Rattle.pol_access.specs.Access.{AccessRows, principal_role_id}
use Rattle.pol_access.specs.Implication.{implies}
use Rattle.pol_access.specs.declared.privilege.Privilege.{Privilege}
use Rattle.pol_access.specs.declared.privilege.Privilege.TheVariants.{ServiceManageAccess}
use Rattle.pol_access.specs.declared.rows.PrincipalRoleRow.{PrincipalRoleRow}
use Rattle.pol_access.specs.declared.securable.Securable.{Securable}
use Rattle.pol_access.specs.declared.securable.Securable.TheVariants.{Realm}
use Rattle.pol_names.specs.declared.scope.Scope.{Scope}
use Rattle.pol_names.specs.declared.scope.Scope.TheVariants as scope
use Rattle.pol_tables.specs.Table.{row_of}

-- the scope has the role: it is all roles, or it names this one
abbrev pub HasRole : Scope → ℕ → Type 0
HasRole scope.All role = ⊤
HasRole (scope.Roles roles) role = Contains roles role

module _ (access : AccessRows) where
  -- the role is active in a session of the principal with this scope: the principal is now a member, and the scope
  -- has the role
  pub record IsActive (principal : ℕ) (session : Scope) (role : ℕ) : Type 0 where
    pub member : Contains access.members (record { principal = principal; role = role })
    pub scoped : HasRole session role

  -- what is wanted is `SERVICE_MANAGE_ACCESS` on the realm, and the role is `service_admin`
  pub record ManagesService (role : ℕ) (wanted : Privilege) (chain : List Securable) : Type 0 where
    pub service : wanted ≡ ServiceManageAccess
    pub realm : Contains chain Realm
    pub row : PrincipalRoleRow
    pub there : row_of principal_role_id role access.principal_roles ≡ Some row
    pub named : row.name ≡ codes "service_admin"

  -- the role is joined to a catalogue role that has a grant of a privilege which implies the wanted one, on what the
  -- chain has below the realm
  pub record IsGranted (role : ℕ) (wanted : Privilege) (chain : List Securable) : Type 0 where
    pub catalog_role : ℕ
    pub joined : Contains access.joins (record { principal_role = role; catalog_role = catalog_role })
    pub held : Privilege
    pub securable : Securable
    pub granted : Contains access.grants (record { catalog_role = catalog_role; privilege = held; securable = securable })
    pub implied : implies held wanted ≡ true
    pub below_realm : securable ≢ Realm
    pub contains : Contains chain securable

  -- a session of the principal with this scope may use the wanted privilege on a securable, whose chain is itself and
  -- all that contain it
  pub record May (principal : ℕ) (session : Scope) (wanted : Privilege) (chain : List Securable) : Type 0 where
    pub role : ℕ
    pub active : IsActive principal session role
    pub allows : ManagesService role wanted chain ⊎ IsGranted role wanted chain
