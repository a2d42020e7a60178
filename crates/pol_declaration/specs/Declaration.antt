-- Declarations: what a text is read as, or its first fault.
use Rattle.std.specs.Prelude.{ℕ, List, [], ◌∷◌, length, nat_le, Option, Some, None, Ok, Err}
use Rattle.std.specs.Str.{is_utf8}
use Rattle.toml.specs.Data.{Data, Members, table as table_of}
use Rattle.toml.specs.Parse.{parse_document}
use Rattle.pol_declaration.specs.Forms.{field, listed, table, text}
use Rattle.pol_declaration.specs.Reading.{Reading, ◌>>=◌, must}
use Rattle.pol_declaration.specs.Tables.{catalog, catalog_role, grant, principal, principal_role}
use Rattle.pol_declaration.specs.declared.declaration.Declaration.{Declaration}
use Rattle.pol_declaration.specs.declared.fault.Fault.TheVariants.{TooLong, NotUtf8, NotToml}
use Rattle.pol_declaration.specs.declared.keys.TheConstants.{CATALOG, CATALOG_ROLE, GRANT, PRINCIPAL, PRINCIPAL_ROLE, ROOT_SECRET}

-- the top table
unfoldable pub declaration : Data → Reading Declaration
declaration d = do
  _ ← table (ROOT_SECRET.now ∷ PRINCIPAL_ROLE.now ∷ PRINCIPAL.now ∷ CATALOG.now ∷ CATALOG_ROLE.now ∷ GRANT.now ∷ []) d
  secret ← field ROOT_SECRET.now text d
  principal_roles ← listed PRINCIPAL_ROLE.now principal_role d
  principals ← listed PRINCIPAL.now principal d
  catalogs ← listed CATALOG.now catalog d
  catalog_roles ← listed CATALOG_ROLE.now catalog_role d
  grants ← listed GRANT.now grant d
  Ok (record {
    root_secret = secret;
    principal_roles = principal_roles;
    principals = principals;
    catalogs = catalogs;
    catalog_roles = catalog_roles;
    grants = grants;
  })

-- the table that a text in UTF-8 is, as the reader of TOML reads it
abbrev pub if_toml : Option Members → Reading Data
if_toml None = Err NotToml
if_toml (Some members) = Ok (table_of members)

abbrev pub data_of : List ℕ → Reading Data
data_of text = if_toml (parse_document text)

-- the value that a text is
unfoldable pub document : List ℕ → Reading Data
document text = do
  _ ← must TooLong (nat_le (length text) 1048576)
  _ ← must NotUtf8 (is_utf8 text)
  data_of text

-- what a text declares
unfoldable pub declared : List ℕ → Reading Declaration
declared text = do
  d ← document text
  declaration d
