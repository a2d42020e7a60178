-- What a metadata weighs, and what a table is asked for with: the lengths of all its texts, and 64 for each field of a
-- schema, of a partition spec and of a sort order, for each snapshot, reference, entry of a log and property.
use Rattle.std.specs.Prelude.{ℕ, ◌+◌, ◌*◌, ◌-◌, ◌^◌, List, length, min, sum_by}
use Rattle.std.specs.Option.{option_map_or}
use Rattle.pol_properties.specs.declared.property.Property.{Property}
use Rattle.pol_meta.specs.declared.column.Column.{Column}
use Rattle.pol_meta.specs.declared.column.Part.{Part}
use Rattle.pol_meta.specs.declared.column.Part.TheVariants.{Field, Element, Key, Value}
use Rattle.pol_meta.specs.declared.log.MetadataLogEntry.{MetadataLogEntry}
use Rattle.pol_meta.specs.declared.metadata.TableMetadata.{TableMetadata}
use Rattle.pol_meta.specs.declared.partition.PartitionField.{PartitionField}
use Rattle.pol_meta.specs.declared.partition.PartitionSpec.{PartitionSpec}
use Rattle.pol_meta.specs.declared.partition.UnboundField.{UnboundField}
use Rattle.pol_meta.specs.declared.partition.UnboundSpec.{UnboundSpec}
use Rattle.pol_meta.specs.declared.reference.NamedRef.{NamedRef}
use Rattle.pol_meta.specs.declared.schema.Schema.{Schema}
use Rattle.pol_meta.specs.declared.snapshot.Snapshot.{Snapshot}
use Rattle.pol_meta.specs.declared.sort.SortOrder.{SortOrder}
use Rattle.pol_meta.specs.declared.sort.UnboundOrder.{UnboundOrder}

-- a weight as 64 bits tell it: those that are too large for them are the largest that they have
unfoldable pub capped : ℕ → ℕ
capped weight = min weight (2 ^ 64 - 1)

-- the texts of pairs
abbrev pub pair_weight : Property → ℕ
pair_weight pair = length pair.key + length pair.value

abbrev pub pairs_weight : List Property → ℕ
pairs_weight pairs = sum_by pair_weight pairs

abbrev pub properties_weight : List Property → ℕ
properties_weight properties = 64 * length properties + pairs_weight properties

-- the texts of a column
abbrev pub part_weight : Part → ℕ
part_weight (Field name required doc) = length name + option_map_or length doc 0
part_weight (Element required) = 0
part_weight Key = 0
part_weight (Value required) = 0

abbrev pub column_weight : Column → ℕ
column_weight column = 64 + part_weight column.part

abbrev pub schema_weight : Schema → ℕ
schema_weight schema = sum_by column_weight schema.fields

abbrev pub partition_field_weight : PartitionField → ℕ
partition_field_weight field = 64 + length field.name

abbrev pub partition_spec_weight : PartitionSpec → ℕ
partition_spec_weight spec = sum_by partition_field_weight spec.fields

abbrev pub sort_order_weight : SortOrder → ℕ
sort_order_weight order = 64 * length order.fields

abbrev pub snapshot_weight : Snapshot → ℕ
snapshot_weight snapshot = 64 + length snapshot.manifest_list + pairs_weight snapshot.summary

abbrev pub named_ref_weight : NamedRef → ℕ
named_ref_weight named = 64 + length named.name

abbrev pub log_entry_weight : MetadataLogEntry → ℕ
log_entry_weight entry = 64 + length entry.metadata_file

-- the weight of a metadata
abbrev pub metadata_weight : TableMetadata → ℕ
metadata_weight meta =
    length meta.location
    + sum_by log_entry_weight meta.metadata_log
    + sum_by partition_spec_weight meta.partition_specs
    + properties_weight meta.properties
    + sum_by named_ref_weight meta.refs
    + sum_by schema_weight meta.schemas
    + 64 * length meta.snapshot_log
    + sum_by snapshot_weight meta.snapshots
    + sum_by sort_order_weight meta.sort_orders

-- what a table is asked for with
abbrev pub unbound_field_weight : UnboundField → ℕ
unbound_field_weight field = 64 + length field.name

abbrev pub unbound_spec_weight : UnboundSpec → ℕ
unbound_spec_weight spec = sum_by unbound_field_weight spec.fields

abbrev pub unbound_order_weight : UnboundOrder → ℕ
unbound_order_weight order = 64 * length order.fields

abbrev pub asked_weight : List ℕ → Schema → UnboundSpec → UnboundOrder → List Property → ℕ
asked_weight location schema spec order properties =
    length location
    + schema_weight schema
    + unbound_spec_weight spec
    + unbound_order_weight order
    + properties_weight properties
