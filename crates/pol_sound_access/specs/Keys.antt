-- The keys by which rows of one kind are told apart.
use Rattle.std.specs.Prelude.{ℕ, List}
use Rattle.pol_access.specs.declared.rows.CatalogRoleRow.{CatalogRoleRow}
use Rattle.pol_access.specs.declared.rows.PrincipalRoleRow.{PrincipalRoleRow}
use Rattle.pol_access.specs.declared.rows.PrincipalRow.{PrincipalRow}
use Rattle.pol_sound_access.specs.declared.keys.ClientKey.{ClientKey}
use Rattle.pol_sound_access.specs.declared.keys.NameKey.{NameKey}

-- a name in what has an id, and the names of each kind
abbrev pub name_key : ℕ → List ℕ → NameKey
name_key within name = record { within = within; name = name }

abbrev pub principal_key : PrincipalRow → NameKey
principal_key row = name_key 0 row.name

abbrev pub client_key : PrincipalRow → ClientKey
client_key row = record { client_id = row.client_id }

abbrev pub principal_role_key : PrincipalRoleRow → NameKey
principal_role_key row = name_key 0 row.name

abbrev pub catalog_role_key : CatalogRoleRow → NameKey
catalog_role_key row = name_key row.catalog row.name
