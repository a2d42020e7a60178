-- The tables of a declaration: the keys of each, in their order, and what stands under them.
use Rattle.std.specs.Prelude.{ℕ, List, [], ◌∷◌, find, is_none, unwrap_or, Option, Ok}
use Rattle.std.specs.Str.{bytes_eq}
use Rattle.toml.specs.Data.{Data}
use Rattle.pol_access.specs.Privilege as privilege
use Rattle.pol_access.specs.declared.privilege.Privilege.{Privilege}
use Rattle.pol_commands.specs.Grants.{grant_on}
use Rattle.pol_commands.specs.declared.grants.Grant.{Grant}
use Rattle.pol_commands.specs.declared.grants.GrantedOn.TheVariants as on
use Rattle.pol_names.specs.Plain.{plain_refusal}
use Rattle.pol_declaration.specs.Forms.{field, found, holds, listed, optional, table, text}
use Rattle.pol_declaration.specs.Reading.{Reading, ◌>>=◌}
use Rattle.pol_declaration.specs.declared.fault.Why.TheVariants.{NotPlain, NoPrivilege, NotGrantable}
use Rattle.pol_declaration.specs.declared.keys.TheConstants.{ALLOWED, BASE, CATALOG, CATALOG_ROLE, CLIENT_ID, NAME, PRINCIPAL_ROLES, PRIVILEGE, ROLES, SECRET}
use Rattle.pol_declaration.specs.declared.tables.NewCatalog.{NewCatalog}
use Rattle.pol_declaration.specs.declared.tables.NewCatalogRole.{NewCatalogRole}
use Rattle.pol_declaration.specs.declared.tables.NewGrant.{NewGrant}
use Rattle.pol_declaration.specs.declared.tables.NewPrincipal.{NewPrincipal}
use Rattle.pol_declaration.specs.declared.tables.NewPrincipalRole.{NewPrincipalRole}

-- the name of a catalogue, a principal or a role
unfoldable pub plain_name : Data → Reading (List ℕ)
plain_name d = do
  name ← text d
  _ ← holds NotPlain (is_none (plain_refusal name))
  Ok name

-- a privilege, by its text
abbrev pub privilege_of : List ℕ → Option Privilege
privilege_of word = find (λ one. bytes_eq (privilege.text_of one) word) privilege.privileges

-- the name of a privilege, as its grant on a catalogue
unfoldable pub catalog_grant : Data → Reading Grant
catalog_grant d = do
  word ← text d
  given ← found NoPrivilege (privilege_of word)
  found NotGrantable (grant_on given on.Catalog)

unfoldable pub principal_role : Data → Reading NewPrincipalRole
principal_role d = do
  _ ← table (NAME.now ∷ []) d
  name ← field NAME.now plain_name d
  Ok (record { name = name })

-- the client id is the name where none is given
unfoldable pub principal : Data → Reading NewPrincipal
principal d = do
  _ ← table (NAME.now ∷ CLIENT_ID.now ∷ SECRET.now ∷ ROLES.now ∷ []) d
  name ← field NAME.now plain_name d
  client_id ← optional CLIENT_ID.now text d
  secret ← optional SECRET.now text d
  roles ← listed ROLES.now plain_name d
  Ok (record { name = name; client_id = unwrap_or client_id name; secret = secret; roles = roles })

unfoldable pub catalog : Data → Reading NewCatalog
catalog d = do
  _ ← table (NAME.now ∷ BASE.now ∷ ALLOWED.now ∷ []) d
  name ← field NAME.now plain_name d
  base ← field BASE.now text d
  allowed ← listed ALLOWED.now text d
  Ok (record { name = name; base = base; allowed = allowed })

unfoldable pub catalog_role : Data → Reading NewCatalogRole
catalog_role d = do
  _ ← table (CATALOG.now ∷ NAME.now ∷ PRINCIPAL_ROLES.now ∷ []) d
  catalog ← field CATALOG.now plain_name d
  name ← field NAME.now plain_name d
  roles ← listed PRINCIPAL_ROLES.now plain_name d
  Ok (record { catalog = catalog; name = name; principal_roles = roles })

unfoldable pub grant : Data → Reading NewGrant
grant d = do
  _ ← table (CATALOG.now ∷ CATALOG_ROLE.now ∷ PRIVILEGE.now ∷ []) d
  catalog ← field CATALOG.now plain_name d
  role ← field CATALOG_ROLE.now plain_name d
  given ← field PRIVILEGE.now catalog_grant d
  Ok (record { catalog = catalog; catalog_role = role; grant = given })
