-- The names by which rows are sought, and their numbers.
use Rattle.std.specs.Prelude.{ℕ, Bool, ◌==◌, ◌&&◌, List, ◌++◌, Option}
use Rattle.std.specs.Hash as fed
use Rattle.std.specs.List.{find}
use Rattle.std.specs.Str.{bytes_eq}
use Rattle.pol_access.specs.Access.{AccessRows}
use Rattle.pol_access.specs.declared.rows.CatalogRoleRow.{CatalogRoleRow}
use Rattle.pol_access.specs.declared.rows.PrincipalRow.{PrincipalRow}
use Rattle.pol_access.specs.declared.rows.PrincipalRoleRow.{PrincipalRoleRow}
use Rattle.pol_tables.specs.Number.{number_of}

-- the number of a text, and that of a role's name in a catalogue, of which a hasher is fed the catalogue's id and then
-- the name
unfoldable pub text_number : List ℕ → ℕ
text_number text = number_of (fed.str text)

unfoldable pub role_number : ℕ → List ℕ → ℕ
role_number catalog name = number_of (fed.u64 catalog ++ fed.str name)

-- whether a row has the name
abbrev pub has_name : List ℕ → PrincipalRow → Bool
has_name name row = bytes_eq name row.name

abbrev pub has_client_id : List ℕ → PrincipalRow → Bool
has_client_id client_id row = bytes_eq client_id row.client_id

abbrev pub has_role_name : List ℕ → PrincipalRoleRow → Bool
has_role_name name row = bytes_eq name row.name

abbrev pub has_catalog_role_name : ℕ → List ℕ → CatalogRoleRow → Bool
has_catalog_role_name catalog name row = row.catalog == catalog && bytes_eq name row.name

-- the number under which a principal's client id is noted
abbrev pub client_number : PrincipalRow → ℕ
client_number row = text_number row.client_id

-- whether two roles of one catalogue have one name
abbrev pub same_role_name : CatalogRoleRow → CatalogRoleRow → Bool
same_role_name left right = right.catalog == left.catalog && bytes_eq left.name right.name

-- the first row of a name or client id
abbrev pub principal_named : List ℕ → AccessRows → Option PrincipalRow
principal_named name access = find (has_name name) access.principals

abbrev pub principal_of_client : List ℕ → AccessRows → Option PrincipalRow
principal_of_client client_id access = find (has_client_id client_id) access.principals

abbrev pub principal_role_named : List ℕ → AccessRows → Option PrincipalRoleRow
principal_role_named name access = find (has_role_name name) access.principal_roles

abbrev pub catalog_role_named : ℕ → List ℕ → AccessRows → Option CatalogRoleRow
catalog_role_named catalog name access = find (has_catalog_role_name catalog name) access.catalog_roles
