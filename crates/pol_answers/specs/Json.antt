-- What the JSON of answers holds.
use Rattle.std.specs.Prelude.{ℕ, Bool, nat_eq, List, ◌++◌, map, filter, drop, codes}
use Rattle.std.specs.List.{fold, starts_with}
use Rattle.serde_json.specs.Data.{Data, string, array, object, Members, member, no_members, put}
use Rattle.serde_json.specs.View.{items_of}
use Rattle.pol_content.specs.declared.rows.CatalogRow.{CatalogRow}
use Rattle.pol_locations.specs.Location.{location_text}
use Rattle.pol_properties.specs.declared.property.Property.{Property}
use Rattle.pol_requests.specs.Keys.{base_key}
use Rattle.pol_requests.specs.Table.{Entry, table}

-- a list
abbrev pub list_json : {A : Type 0} → (A → Data) → List A → Data
list_json json items = array (items_of (map json items))

-- a list of texts
abbrev pub texts_json : List (List ℕ) → Data
texts_json = list_json string

-- a location, as its text
abbrev pub location_json : List (List ℕ) → Data
location_json segments = string (location_text segments)

-- an object with one more member, which takes the place of one with that key
abbrev pub with_property : Members → Property → Members
with_property members pair = put pair.key (string pair.value) members

-- the members of an object with these properties
unfoldable pub property_members : List Property → Members
property_members properties = fold with_property no_members properties

-- a namespace (Iceberg REST OpenAPI, CreateNamespaceResponse and GetNamespaceResponse)
abbrev pub namespace_json : List (List ℕ) → List Property → Data
namespace_json levels properties =
    object (member (codes "namespace") (texts_json levels)
    (member (codes "properties") (object (property_members properties)) no_members))

-- a list of namespaces (Iceberg REST OpenAPI, ListNamespacesResponse)
abbrev pub namespaces_json : List (List (List ℕ)) → Data
namespaces_json namespaces = object (member (codes "namespaces") (list_json texts_json namespaces) no_members)

-- what became of properties, as three lists of keys (Iceberg REST OpenAPI, UpdateNamespacePropertiesResponse)
abbrev pub updated_object : Data → Data → Data → Data
updated_object missing removed updated =
    object (member (codes "missing") missing (member (codes "removed") removed (member (codes "updated") updated no_members)))

abbrev pub updated_json : List (List ℕ) → List (List ℕ) → List (List ℕ) → Data
updated_json missing removed updated = updated_object (texts_json missing) (texts_json removed) (texts_json updated)

-- the properties of a catalogue, with its base's text among them
abbrev pub catalog_members : CatalogRow → Members
catalog_members row = put base_key (string (location_text row.base)) (property_members row.properties)

-- a catalogue with that name, these properties and these locations (Apache Polaris Management Service, Catalog)
abbrev pub catalog_object : List ℕ → Members → Data → Data
catalog_object name properties allowed =
    object (member (codes "name") (string name)
    (member (codes "properties") (object properties)
    (member (codes "storageConfigInfo") (object (member (codes "allowedLocations") allowed no_members))
    (member (codes "type") (string (codes "INTERNAL")) no_members))))

-- a catalogue
unfoldable pub catalog_json : CatalogRow → Data
catalog_json row = catalog_object row.name (catalog_members row) (list_json location_json row.allowed)

-- a list of catalogues (Apache Polaris Management Service, Catalogs)
abbrev pub catalogs_json : List CatalogRow → Data
catalogs_json rows = object (member (codes "catalogs") (list_json catalog_json rows) no_members)

-- what the path of a row of the catalogue API behind a prefix begins with
abbrev pub prefixed : List ℕ
prefixed = codes "/api/catalog/v1/{prefix}"

-- the row is one of these
abbrev pub is_endpoint : Entry → Bool
is_endpoint row = starts_with nat_eq row.path prefixed

-- its method, and its path from the version on
abbrev pub endpoint_text : Entry → List ℕ
endpoint_text row = row.method ++ (codes " /v1/{prefix}" ++ drop 24 row.path)

-- the endpoints that rows list, in their order
abbrev pub endpoints_of : List Entry → List (List ℕ)
endpoints_of rows = map endpoint_text (filter is_endpoint rows)

-- how to speak to a catalogue, with a list of endpoints (Iceberg REST OpenAPI, CatalogConfig)
abbrev pub config_object : List ℕ → Data → Data
config_object name endpoints =
    object (member (codes "defaults") (object no_members)
    (member (codes "endpoints") endpoints
    (member (codes "overrides") (object (member (codes "prefix") (string name) no_members)) no_members)))

-- how to speak to a catalogue: by the endpoints of the table
unfoldable pub config_json : List ℕ → Data
config_json name = config_object name (texts_json (endpoints_of table))
