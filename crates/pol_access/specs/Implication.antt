-- Implication: a privilege that is held allows what it implies.
use Rattle.std.specs.Prelude.{Bool, if◌then◌else◌, List, [], ◌∷◌, ◌++◌}
use Rattle.std.specs.List.{flat_map, list_any}
use Rattle.pol_access.specs.Privilege.{same_privilege}
use Rattle.pol_access.specs.declared.privilege.Privilege.{Privilege}
use Rattle.pol_access.specs.declared.privilege.Privilege.TheVariants.{NamespaceCreate, NamespaceDrop, NamespaceList, NamespaceReadProperties, NamespaceWriteProperties, NamespaceFullMetadata, TableCreate, TableDrop, TableList, TableReadProperties, TableWriteProperties, TableFullMetadata, ViewCreate, ViewDrop, ViewList, ViewReadProperties, ViewWriteProperties, ViewFullMetadata, TableReadData, TableWriteData, CatalogManageAccess, CatalogManageContent, CatalogManageMetadata, CatalogReadProperties, CatalogWriteProperties}

-- all privileges of namespaces and of views
abbrev pub of_namespaces : List Privilege
of_namespaces = NamespaceCreate ∷ NamespaceDrop ∷ NamespaceList ∷ NamespaceReadProperties ∷ NamespaceWriteProperties ∷ NamespaceFullMetadata ∷ []

abbrev pub of_views : List Privilege
of_views = ViewCreate ∷ ViewDrop ∷ ViewList ∷ ViewReadProperties ∷ ViewWriteProperties ∷ ViewFullMetadata ∷ []

-- all privileges of tables but the two for data, and all
abbrev pub of_table_metadata : List Privilege
of_table_metadata = TableCreate ∷ TableDrop ∷ TableList ∷ TableReadProperties ∷ TableWriteProperties ∷ TableFullMetadata ∷ []

abbrev pub of_tables : List Privilege
of_tables = of_table_metadata ++ TableReadData ∷ TableWriteData ∷ []

-- a row of the table: each of the held privileges implies each of the others
pub record Implication : Type 0 where
  pub held : List Privilege
  pub others : List Privilege

abbrev also : List Privilege → List Privilege → Implication
also held others = record { held = held; others = others }

-- the table: what a privilege implies beside itself
abbrev pub implications : List Implication
implications =
    also (CatalogManageContent ∷ []) (CatalogManageMetadata ∷ CatalogReadProperties ∷ CatalogWriteProperties ∷ of_namespaces ++ of_tables ++ of_views)
    ∷ also (CatalogManageMetadata ∷ []) (CatalogReadProperties ∷ CatalogWriteProperties ∷ of_namespaces ++ of_views ++ of_table_metadata)
    ∷ also (CatalogManageAccess ∷ CatalogWriteProperties ∷ []) (CatalogReadProperties ∷ [])
    ∷ also (NamespaceFullMetadata ∷ []) of_namespaces
    ∷ also (ViewFullMetadata ∷ []) of_views
    ∷ also (TableFullMetadata ∷ []) of_table_metadata
    ∷ also (NamespaceWriteProperties ∷ []) (NamespaceReadProperties ∷ NamespaceList ∷ [])
    ∷ also (TableWriteProperties ∷ []) (TableReadProperties ∷ TableList ∷ [])
    ∷ also (ViewWriteProperties ∷ []) (ViewReadProperties ∷ ViewList ∷ [])
    ∷ also (NamespaceReadProperties ∷ NamespaceCreate ∷ []) (NamespaceList ∷ [])
    ∷ also (TableReadProperties ∷ TableCreate ∷ []) (TableList ∷ [])
    ∷ also (ViewReadProperties ∷ ViewCreate ∷ []) (ViewList ∷ [])
    ∷ also (TableReadData ∷ []) (TableReadProperties ∷ TableList ∷ [])
    ∷ also (TableWriteData ∷ []) (TableReadData ∷ TableWriteProperties ∷ TableReadProperties ∷ TableList ∷ [])
    ∷ []

-- whether a privilege is one of these
abbrev pub is_one_of : Privilege → List Privilege → Bool
is_one_of privilege privileges = list_any (λ kept. same_privilege kept privilege) privileges

-- the others of the rows in which a privilege is held
unfoldable pub implied_by : Privilege → List Privilege
implied_by held = flat_map (λ row. if is_one_of held row.held then row.others else []) implications

-- whether a privilege implies another: itself, and what the table says
unfoldable pub implies : Privilege → Privilege → Bool
implies held wanted = is_one_of wanted (held ∷ implied_by held)
