-- The bodies of management requests (Apache Polaris Management Service), each as one shape.
use Rattle.std.specs.Prelude.{ℕ, List, [], ◌∷◌, find, is_none, Option}
use Rattle.std.specs.Str.{bytes_eq}
use Rattle.pol_access.specs.Privilege as privilege
use Rattle.pol_access.specs.Privilege.{grantable, privileges}
use Rattle.pol_access.specs.declared.privilege.Privilege.{Privilege}
use Rattle.pol_access.specs.declared.securable.SecurableKind.{SecurableKind}
use Rattle.pol_access.specs.declared.securable.SecurableKind.TheVariants as kind
use Rattle.pol_commands.specs.Grants.{grant_on}
use Rattle.pol_commands.specs.declared.grants.Grant.{Grant}
use Rattle.pol_commands.specs.declared.grants.GrantedOn.{GrantedOn}
use Rattle.pol_commands.specs.declared.grants.GrantedOn.TheVariants as on
use Rattle.pol_names.specs.Name.{name_refusal}
use Rattle.pol_names.specs.declared.identifier.Identifier.{Identifier}
use Rattle.pol_readers.specs.Shape.{Shape, ◌>>=◌, an_object, done, field, holds_at, one_found, one_of, rule, text, text_of}
use Rattle.pol_bodies.specs.Bodies.{levels, plain_name}
use Rattle.pol_bodies.specs.declared.keys.TheConstants.{CATALOG, CATALOG_ROLE, GRANT, NAME, NAMESPACE, PRINCIPAL, PRINCIPAL_ROLE, PRIVILEGE, TABLE, TABLE_NAME, TYPE, VIEW, VIEW_NAME}
use Rattle.pol_bodies.specs.declared.management_bodies.CatalogRoleBody.{CatalogRoleBody}
use Rattle.pol_bodies.specs.declared.management_bodies.GrantBody.{GrantBody}
use Rattle.pol_bodies.specs.declared.management_bodies.GrantType.{GrantType}
use Rattle.pol_bodies.specs.declared.management_bodies.GrantType.TheVariants.{Catalog, Namespace, Table, View}
use Rattle.pol_bodies.specs.declared.management_bodies.Named.{Named}
use Rattle.pol_bodies.specs.declared.management_bodies.PrincipalBody.{PrincipalBody}
use Rattle.pol_bodies.specs.declared.management_bodies.PrincipalRoleBody.{PrincipalRoleBody}

-- an object with a plain name
unfoldable pub named : Shape Named
named = do
  _ ← an_object
  given ← field NAME.now plain_name
  done (record { name = given })

-- an object that has a named one under a key: the name
unfoldable pub name_under : List ℕ → Shape (List ℕ)
name_under key = do
  _ ← an_object
  held ← field key named
  done held.name

-- the body that creates a principal (CreatePrincipalRequest)
unfoldable pub principal_body : Shape PrincipalBody
principal_body = do
  given ← name_under PRINCIPAL.now
  done (record { name = given })

-- the body that names a principal role (CreatePrincipalRoleRequest, GrantPrincipalRoleRequest)
unfoldable pub principal_role_body : Shape PrincipalRoleBody
principal_role_body = do
  given ← name_under PRINCIPAL_ROLE.now
  done (record { name = given })

-- the body that names a role of a catalogue (CreateCatalogRoleRequest, GrantCatalogRoleRequest)
unfoldable pub catalog_role_body : Shape CatalogRoleBody
catalog_role_body = do
  given ← name_under CATALOG_ROLE.now
  done (record { name = given })

-- a name
unfoldable pub name_text : Shape (List ℕ)
name_text = do
  name ← text
  _ ← rule (is_none (name_refusal name))
  done name

-- a privilege, by its text
abbrev pub privilege_of : List ℕ → Option Privilege
privilege_of word = find (λ one. bytes_eq (privilege.text_of one) word) privileges

unfoldable pub privilege_text : Shape Privilege
privilege_text = text_of privilege_of

-- the types of grants
abbrev pub type_words : List (List ℕ × GrantType)
type_words = (CATALOG.now, Catalog) ∷ (NAMESPACE.now, Namespace) ∷ (TABLE.now, Table) ∷ (VIEW.now, View) ∷ []

unfoldable pub grant_type : Shape GrantType
grant_type = one_of type_words

-- the kind of what a grant of a type is on
abbrev pub kind_of_type : GrantType → SecurableKind
kind_of_type Catalog = kind.Catalog
kind_of_type Namespace = kind.Namespace
kind_of_type Table = kind.Table
kind_of_type View = kind.View

-- the full name of a table or a view, whose own name stands under that key
unfoldable pub identifier : List ℕ → Shape Identifier
identifier key = do
  within ← field NAMESPACE.now levels
  called ← field key name_text
  done (record { namespace = within; name = called })

-- what a grant of a type is on
unfoldable pub granted_on : GrantType → Shape GrantedOn
granted_on Catalog = done on.Catalog
granted_on Namespace = do
  within ← field NAMESPACE.now levels
  done (on.Namespace within)
granted_on Table = do
  table ← identifier TABLE_NAME.now
  done (on.Table table)
granted_on View = do
  view ← identifier VIEW_NAME.now
  done (on.View view)

-- a grant (GrantResource); whether its privilege may be granted is judged before what it is on is read
unfoldable pub grant : Shape Grant
grant = do
  _ ← an_object
  type ← field TYPE.now grant_type
  given ← field PRIVILEGE.now privilege_text
  _ ← holds_at PRIVILEGE.now (grantable given (kind_of_type type))
  granted ← granted_on type
  one_found (grant_on given granted)

-- the body that adds or revokes a grant (AddGrantRequest, RevokeGrantRequest)
unfoldable pub grant_body : Shape GrantBody
grant_body = do
  _ ← an_object
  given ← field GRANT.now grant
  done (record { grant = given })
