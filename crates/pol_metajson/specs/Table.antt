-- Tables that are asked for (Iceberg REST OpenAPI, CreateTableRequest).
use Rattle.std.specs.Prelude.{ℕ, false, List, [], map, is_none, unwrap_or, Option, None, Some}
use Rattle.pol_names.specs.Name.{name_refusal}
use Rattle.pol_properties.specs.Properties.{of_pairs}
use Rattle.pol_properties.specs.declared.property.Property.{Property}
use Rattle.pol_meta.specs.Creation.{IsAskedFor}
use Rattle.pol_meta.specs.Valid.{IsLong}
use Rattle.pol_meta.specs.declared.partition.UnboundSpec.{UnboundSpec}
use Rattle.pol_meta.specs.declared.sort.UnboundOrder.{UnboundOrder}
use Rattle.pol_readers.specs.Shape.{Shape, ◌>>=◌, an_object, done, entries, field, optional, rule, text, truth}
use Rattle.pol_metajson.specs.Order.{unbound_order}
use Rattle.pol_metajson.specs.Partition.{unbound_spec}
use Rattle.pol_metajson.specs.Schema.{schema}
use Rattle.pol_metakeys.specs.declared.keys.TheConstants.{LOCATION, NAME, PARTITION_SPEC, PROPERTIES, SCHEMA, STAGE_CREATE, WRITE_ORDER}
use Rattle.pol_metajson.specs.declared.table.CreateTable.{CreateTable}

-- the name of a table
unfoldable pub table_name : Shape (List ℕ)
table_name = do
  word ← text
  _ ← rule (is_none (name_refusal word))
  done word

-- an object of texts
abbrev pub property_of : List ℕ × List ℕ → Property
property_of entry = record { key = entry.0; value = entry.1 }

abbrev pub properties_of : List (List ℕ × List ℕ) → List Property
properties_of pairs = of_pairs (map property_of pairs)

unfoldable pub text_map : Shape (List Property)
text_map = do
  pairs ← entries text
  done (properties_of pairs)

-- a table without a spec isn't partitioned, and one without an order isn't sorted
abbrev pub given_spec : Option UnboundSpec → UnboundSpec
given_spec None = record { fields = [] }
given_spec (Some spec) = spec

abbrev pub given_order : Option UnboundOrder → UnboundOrder
given_order None = record { fields = [] }
given_order (Some order) = order

unfoldable pub create_table : Shape CreateTable
create_table = do
  _ ← an_object
  named ← field NAME.now table_name
  placed ← optional LOCATION.now text
  columns ← field SCHEMA.now schema
  parted ← optional PARTITION_SPEC.now unbound_spec
  sorted ← optional WRITE_ORDER.now unbound_order
  staged ← optional STAGE_CREATE.now truth
  described ← optional PROPERTIES.now text_map
  done (record {
    name = named;
    location = placed;
    schema = columns;
    partition_spec = given_spec parted;
    write_order = given_order sorted;
    stage_create = unwrap_or staged false;
    properties = unwrap_or described [];
  })

-- a request with the forms that the metadata of a new table asks for, at any moment
abbrev pub IsFormed : CreateTable → Type 0
IsFormed request =
    (moment : ℕ) → IsLong moment → IsAskedFor request.schema request.partition_spec request.write_order moment
