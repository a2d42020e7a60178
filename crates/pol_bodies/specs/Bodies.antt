-- The bodies of requests, each as one shape: what a value of JSON stands for, and the grammar of the same.
use Rattle.std.specs.Prelude.{ℕ, Bool, false, not, List, [], map, is_none, Option, Some, None, unwrap_or}
use Rattle.std.specs.Str.{bytes_eq}
use Rattle.pol_names.specs.Namespace.{namespace_refusal}
use Rattle.pol_names.specs.Plain.{plain_refusal}
use Rattle.pol_properties.specs.Properties.{of_pairs, value_of, without_key}
use Rattle.pol_properties.specs.declared.property.Property.{Property}
use Rattle.pol_readers.specs.Shape.{Shape, ◌>>=◌, an_object, done, entries, field, found_at, list, optional, rule, text, whole}
use Rattle.pol_requests.specs.Keys.{base_key}
use Rattle.pol_bodies.specs.declared.bodies.BasedProperties.{BasedProperties}
use Rattle.pol_bodies.specs.declared.bodies.CatalogBody.{CatalogBody}
use Rattle.pol_bodies.specs.declared.bodies.NewCatalog.{NewCatalog}
use Rattle.pol_bodies.specs.declared.bodies.NewNamespace.{NewNamespace}
use Rattle.pol_bodies.specs.declared.bodies.PropertyUpdates.{PropertyUpdates}
use Rattle.pol_bodies.specs.declared.bodies.Storage.{Storage}
use Rattle.pol_bodies.specs.declared.keys.TheConstants.{ALLOWED_LOCATIONS, CATALOG, INTERNAL, NAME, NAMESPACE, PROPERTIES, REMOVALS, STORAGE_CONFIG_INFO, TYPE, UPDATES}

-- a plain name
unfoldable pub plain_name : Shape (List ℕ)
plain_name = do
  name ← text
  _ ← rule (is_none (plain_refusal name))
  done name

-- a namespace, as the list of its levels, into which no path goes
unfoldable pub levels : Shape (List (List ℕ))
levels = do
  texts ← whole (list text)
  _ ← rule (is_none (namespace_refusal texts))
  done texts

-- the properties that entries make
abbrev pub property_of : List ℕ × List ℕ → Property
property_of entry = record { key = entry.0; value = entry.1 }

abbrev pub properties_of : List (List ℕ × List ℕ) → List Property
properties_of pairs = of_pairs (map property_of pairs)

-- an object of texts
unfoldable pub text_map : Shape (List Property)
text_map = do
  pairs ← entries text
  done (properties_of pairs)

-- a new namespace (Iceberg REST OpenAPI, CreateNamespaceRequest)
unfoldable pub new_namespace : Shape NewNamespace
new_namespace = do
  _ ← an_object
  named ← field NAMESPACE.now levels
  given ← optional PROPERTIES.now text_map
  done (record { namespace = named; properties = unwrap_or given [] })

-- changes of properties (Iceberg REST OpenAPI, UpdateNamespacePropertiesRequest)
unfoldable pub property_updates : Shape PropertyUpdates
property_updates = do
  _ ← an_object
  removed ← optional REMOVALS.now (list text)
  updated ← optional UPDATES.now text_map
  done (record { removals = unwrap_or removed []; updates = unwrap_or updated [] })

-- the properties of a new catalogue: its base, which must be among them, and the others
unfoldable pub based_properties : Shape BasedProperties
based_properties = do
  all ← text_map
  base ← found_at base_key (value_of base_key all)
  done (record { base = base; properties = without_key base_key all })

-- the storage of a new catalogue
unfoldable pub storage : Shape Storage
storage = do
  _ ← an_object
  given ← optional ALLOWED_LOCATIONS.now (list text)
  done (record { allowed = unwrap_or given [] })

-- a catalogue is external where it has a type that isn't that of internal ones
abbrev pub is_external : Option (List ℕ) → Bool
is_external None = false
is_external (Some type) = not (bytes_eq type INTERNAL.now)

-- no locations are allowed beside the base where no storage is given
abbrev pub allowed_by : Option Storage → List (List ℕ)
allowed_by None = []
allowed_by (Some found) = found.allowed

-- a new catalogue (Apache Polaris Management Service, Catalog)
unfoldable pub new_catalog : Shape NewCatalog
new_catalog = do
  _ ← an_object
  named ← field NAME.now plain_name
  type ← optional TYPE.now text
  based ← field PROPERTIES.now based_properties
  stored ← optional STORAGE_CONFIG_INFO.now storage
  done (record {
    name = named;
    external = is_external type;
    base = based.base;
    properties = based.properties;
    allowed = allowed_by stored;
  })

-- the body that creates a catalogue (Apache Polaris Management Service, CreateCatalogRequest)
unfoldable pub catalog_body : Shape CatalogBody
catalog_body = do
  _ ← an_object
  new ← field CATALOG.now new_catalog
  done (record { catalog = new })
