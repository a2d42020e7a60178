-- Privileges: their texts, and where each may be granted.
use Rattle.std.specs.Prelude.{◌≡◌, ℕ, Bool, true, false, not, ◌||◌, List, [], ◌∷◌, codes, nat_eq}
use Rattle.std.specs.List.{starts_with}
use denote.Enum.Bare.{sameb, same_true}
use Rattle.pol_access.specs.contracts.privilege.Privilege.{the_type}
use Rattle.pol_access.specs.declared.privilege.Privilege.{Privilege}
use Rattle.pol_access.specs.declared.privilege.Privilege.TheVariants.{NamespaceCreate, NamespaceDrop, NamespaceList, NamespaceReadProperties, NamespaceWriteProperties, NamespaceFullMetadata, TableCreate, TableDrop, TableList, TableReadProperties, TableWriteProperties, TableFullMetadata, ViewCreate, ViewDrop, ViewList, ViewReadProperties, ViewWriteProperties, ViewFullMetadata, TableReadData, TableWriteData, CatalogManageAccess, CatalogManageContent, CatalogManageMetadata, CatalogReadProperties, CatalogWriteProperties, ServiceManageAccess}
use Rattle.pol_access.specs.declared.securable.SecurableKind.{SecurableKind}
use Rattle.pol_access.specs.declared.securable.SecurableKind.TheVariants as kind

-- all privileges, in the order of their numbers
abbrev pub privileges : List Privilege
privileges =
    NamespaceCreate ∷ NamespaceDrop ∷ NamespaceList ∷ NamespaceReadProperties ∷ NamespaceWriteProperties ∷ NamespaceFullMetadata
    ∷ TableCreate ∷ TableDrop ∷ TableList ∷ TableReadProperties ∷ TableWriteProperties ∷ TableFullMetadata
    ∷ ViewCreate ∷ ViewDrop ∷ ViewList ∷ ViewReadProperties ∷ ViewWriteProperties ∷ ViewFullMetadata
    ∷ TableReadData ∷ TableWriteData ∷ CatalogManageAccess ∷ CatalogManageContent ∷ CatalogManageMetadata ∷ CatalogReadProperties ∷ CatalogWriteProperties ∷ ServiceManageAccess ∷ []

-- the number of a privilege
abbrev pub privilege_number : Privilege → ℕ
privilege_number NamespaceCreate = 0
privilege_number NamespaceDrop = 1
privilege_number NamespaceList = 2
privilege_number NamespaceReadProperties = 3
privilege_number NamespaceWriteProperties = 4
privilege_number NamespaceFullMetadata = 5
privilege_number TableCreate = 6
privilege_number TableDrop = 7
privilege_number TableList = 8
privilege_number TableReadProperties = 9
privilege_number TableWriteProperties = 10
privilege_number TableFullMetadata = 11
privilege_number ViewCreate = 12
privilege_number ViewDrop = 13
privilege_number ViewList = 14
privilege_number ViewReadProperties = 15
privilege_number ViewWriteProperties = 16
privilege_number ViewFullMetadata = 17
privilege_number TableReadData = 18
privilege_number TableWriteData = 19
privilege_number CatalogManageAccess = 20
privilege_number CatalogManageContent = 21
privilege_number CatalogManageMetadata = 22
privilege_number CatalogReadProperties = 23
privilege_number CatalogWriteProperties = 24
privilege_number ServiceManageAccess = 25

-- whether two privileges are one
abbrev pub same_privilege : Privilege → Privilege → Bool
same_privilege = sameb the_type

-- privileges that compare as equal are equal
pub privilege_is : (left right : Privilege) → same_privilege left right ≡ true → left ≡ right
privilege_is left right same = same_true the_type tt left right same

-- the text under which requests and answers name a privilege
unfoldable pub text_of : Privilege → List ℕ
text_of NamespaceCreate = codes "NAMESPACE_CREATE"
text_of NamespaceDrop = codes "NAMESPACE_DROP"
text_of NamespaceList = codes "NAMESPACE_LIST"
text_of NamespaceReadProperties = codes "NAMESPACE_READ_PROPERTIES"
text_of NamespaceWriteProperties = codes "NAMESPACE_WRITE_PROPERTIES"
text_of NamespaceFullMetadata = codes "NAMESPACE_FULL_METADATA"
text_of TableCreate = codes "TABLE_CREATE"
text_of TableDrop = codes "TABLE_DROP"
text_of TableList = codes "TABLE_LIST"
text_of TableReadProperties = codes "TABLE_READ_PROPERTIES"
text_of TableWriteProperties = codes "TABLE_WRITE_PROPERTIES"
text_of TableFullMetadata = codes "TABLE_FULL_METADATA"
text_of ViewCreate = codes "VIEW_CREATE"
text_of ViewDrop = codes "VIEW_DROP"
text_of ViewList = codes "VIEW_LIST"
text_of ViewReadProperties = codes "VIEW_READ_PROPERTIES"
text_of ViewWriteProperties = codes "VIEW_WRITE_PROPERTIES"
text_of ViewFullMetadata = codes "VIEW_FULL_METADATA"
text_of TableReadData = codes "TABLE_READ_DATA"
text_of TableWriteData = codes "TABLE_WRITE_DATA"
text_of CatalogManageAccess = codes "CATALOG_MANAGE_ACCESS"
text_of CatalogManageContent = codes "CATALOG_MANAGE_CONTENT"
text_of CatalogManageMetadata = codes "CATALOG_MANAGE_METADATA"
text_of CatalogReadProperties = codes "CATALOG_READ_PROPERTIES"
text_of CatalogWriteProperties = codes "CATALOG_WRITE_PROPERTIES"
text_of ServiceManageAccess = codes "SERVICE_MANAGE_ACCESS"

-- whether the privilege's text begins so
abbrev pub begins_with : List ℕ → Privilege → Bool
begins_with prefix privilege = starts_with nat_eq (text_of privilege) prefix

-- whether a privilege may be granted on securables of a kind
unfoldable pub grantable : Privilege → SecurableKind → Bool
grantable privilege kind.Realm = false
grantable privilege kind.Catalog = not (same_privilege privilege ServiceManageAccess)
grantable privilege kind.Namespace = begins_with (codes "NAMESPACE_") privilege || begins_with (codes "TABLE_") privilege || begins_with (codes "VIEW_") privilege
grantable privilege kind.Table = begins_with (codes "TABLE_") privilege
grantable privilege kind.View = begins_with (codes "VIEW_") privilege
