-- What is told of rows.
use Rattle.std.specs.Prelude.{ℕ, List, ◌++◌, codes, decimal}
use Rattle.hex.specs.Hex.{encode_lower}
use Rattle.serde_json.specs.Written.{compact_text}
use Rattle.pol_access.specs.Privilege.{text_of}
use Rattle.pol_access.specs.declared.rows.CatalogRoleRow.{CatalogRoleRow}
use Rattle.pol_access.specs.declared.rows.GrantRow.{GrantRow}
use Rattle.pol_access.specs.declared.rows.JoinRow.{JoinRow}
use Rattle.pol_access.specs.declared.rows.MemberRow.{MemberRow}
use Rattle.pol_access.specs.declared.rows.PrincipalRoleRow.{PrincipalRoleRow}
use Rattle.pol_access.specs.declared.rows.PrincipalRow.{PrincipalRow}
use Rattle.pol_access.specs.declared.securable.Securable.{Securable}
use Rattle.pol_access.specs.declared.securable.Securable.TheVariants.{Realm, Catalog, Namespace, Table, View}
use Rattle.pol_content.specs.declared.rows.CatalogRow.{CatalogRow}
use Rattle.pol_content.specs.declared.rows.NamespaceRow.{NamespaceRow}
use Rattle.pol_locations.specs.Location.{location_text}
use Rattle.pol_metaprint.specs.Metadata.{table_json}
use Rattle.pol_names.specs.Namespace.{dotted}
use Rattle.pol_names.specs.declared.scope.Scope.{Scope}
use Rattle.pol_names.specs.declared.scope.Scope.TheVariants.{All, Roles}
use Rattle.pol_table_rows.specs.declared.row.TableRow.{TableRow}
use Rattle.pol_tokens.specs.declared.session.SessionRow.{SessionRow}
use Rattle.pol_tokens.specs.declared.token.TokenRow.{TokenRow}
use Rattle.pol_view_rows.specs.declared.row.ViewRow.{ViewRow}
use Rattle.pol_viewjson.specs.Json.{view_json}
use Rattle.pol_changetexts.specs.Told.{list_text, named_text, property_text, truth_text}

-- a text and, behind a space, another one
infixr 20 ◌&◌
abbrev pub ◌&◌ : List ℕ → List ℕ → List ℕ
first & rest = first ++ (codes " " ++ rest)

abbrev pub principal_text : PrincipalRow → List ℕ
principal_text row = decimal row.id & row.name & row.client_id & encode_lower row.digest

abbrev pub principal_role_text : PrincipalRoleRow → List ℕ
principal_role_text row = decimal row.id & row.name

-- the properties of a catalogue or namespace, each its key and its text
abbrev pub catalog_text : CatalogRow → List ℕ
catalog_text row =
    decimal row.id & row.name & location_text row.base & list_text (codes " ") location_text row.allowed
    & list_text (codes " ") property_text row.properties

abbrev pub catalog_role_text : CatalogRoleRow → List ℕ
catalog_role_text row = decimal row.id & decimal row.catalog & row.name

abbrev pub namespace_text : NamespaceRow → List ℕ
namespace_text row =
    decimal row.id & decimal row.catalog & dotted row.levels & list_text (codes " ") property_text row.properties

-- a table without its location and its metadata, which is told by its JSON
abbrev pub table_front : TableRow → List ℕ
table_front row = decimal row.id & decimal row.namespace & row.name & decimal row.version & decimal row.moves

abbrev pub table_text : TableRow → List ℕ
table_text row = table_front row & location_text row.location & compact_text (table_json row.metadata)

abbrev pub view_text : ViewRow → List ℕ
view_text row = decimal row.id & decimal row.namespace & row.name & decimal row.version & compact_text (view_json row.metadata)

abbrev pub member_text : MemberRow → List ℕ
member_text row = decimal row.principal & decimal row.role

abbrev pub join_text : JoinRow → List ℕ
join_text row = decimal row.principal_role & decimal row.catalog_role

abbrev pub securable_text : Securable → List ℕ
securable_text Realm = codes "Realm"
securable_text (Catalog id) = named_text (codes "Catalog") decimal id
securable_text (Namespace id) = named_text (codes "Namespace") decimal id
securable_text (Table id) = named_text (codes "Table") decimal id
securable_text (View id) = named_text (codes "View") decimal id

abbrev pub grant_text : GrantRow → List ℕ
grant_text row = decimal row.catalog_role & text_of row.privilege & securable_text row.securable

abbrev pub scope_text : Scope → List ℕ
scope_text All = codes "All"
scope_text (Roles ids) = named_text (codes "Roles") (list_text (codes " ") decimal) ids

abbrev pub session_text : SessionRow → List ℕ
session_text row =
    decimal row.serial & decimal row.word_a & decimal row.word_b & decimal row.principal & scope_text row.scope
    & decimal row.expires

-- a storage token up to its table
abbrev pub token_front : TokenRow → List ℕ
token_front row =
    decimal row.serial & decimal row.word_a & decimal row.word_b & decimal row.principal & decimal row.table

abbrev pub token_text : TokenRow → List ℕ
token_text row =
    token_front row & decimal row.moves & location_text row.location & truth_text row.write & decimal row.expires
