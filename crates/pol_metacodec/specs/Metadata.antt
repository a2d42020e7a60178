-- The forms of schemas and of whole metadata: each is its parts, and a rule that ties them.
use Rattle.std.specs.Prelude.{ℕ, List, Option, refl}
use Rattle.pol_forms.specs.Enums.{optional}
use Rattle.pol_forms.specs.Form.{Form}
use Rattle.pol_forms.specs.Forms.{bytes_of, list, mapped, ruled, short_number, text, ◌&◌}
use Rattle.pol_forms.specs.Names.{properties}
use Rattle.pol_properties.specs.declared.property.Property.{Property}
use Rattle.pol_meta.specs.declared.log.MetadataLogEntry.{MetadataLogEntry}
use Rattle.pol_meta.specs.declared.log.SnapshotLogEntry.{SnapshotLogEntry}
use Rattle.pol_meta.specs.declared.metadata.TableMetadata.{TableMetadata}
use Rattle.pol_meta.specs.declared.partition.PartitionSpec.{PartitionSpec}
use Rattle.pol_meta.specs.declared.reference.NamedRef.{NamedRef}
use Rattle.pol_meta.specs.declared.schema.Schema.{Schema}
use Rattle.pol_meta.specs.declared.snapshot.Snapshot.{Snapshot}
use Rattle.pol_meta.specs.declared.sort.SortOrder.{SortOrder}
use Rattle.pol_columnforms.specs.Columns.{columns}
use Rattle.pol_partcodec.specs.Numbers.{column_id, id, last_field_id, long, version}
use Rattle.pol_partcodec.specs.Parts.{metadata_log_entry, named_ref, partition_spec, snapshot, snapshot_log_entry, sort_order}
use Rattle.pol_metacodec.specs.Whole.{HasOwnColumns, IsWhole, columns-told, has_own_columns, is_whole, told-columns, told-whole, whole-told}

-- a schema: id, ids of the fields that tell rows apart, columns
unfoldable pub schema_fields : Form Schema
schema_fields = mapped (id & list short_number & columns)
    (λ fields. record { schema_id = fields.0; identifier_field_ids = fields.1.0; fields = fields.1.1 })
    (λ one. (one.schema_id, (one.identifier_field_ids, one.fields)))
    (λ one. refl) (λ fields. refl)

unfoldable pub schema : Form Schema
schema = ruled schema_fields HasOwnColumns has_own_columns (λ one held passes. columns-told one passes) told-columns

-- the fields of a metadata, in the order in which its JSON is printed, in four groups: what is current or the default,
-- with the version of the format; the last ids and times, with the location; the logs and lists up to the schemas; and
-- those behind them, with the uuid
abbrev pub Chosen : Type 0
Chosen = ℕ × ((Option ℕ) × (ℕ × (ℕ × ℕ)))

abbrev pub Lasts : Type 0
Lasts = ℕ × (ℕ × (ℕ × (ℕ × List ℕ)))

abbrev pub Listings : Type 0
Listings = (List MetadataLogEntry) × ((List PartitionSpec) × ((List Property) × ((List NamedRef) × List Schema)))

abbrev pub Others : Type 0
Others = (List SnapshotLogEntry) × ((List Snapshot) × ((List SortOrder) × List ℕ))

unfoldable pub chosen : Form Chosen
chosen = id & optional long & id & id & version

unfoldable pub lasts : Form Lasts
lasts = column_id & last_field_id & long & long & text

unfoldable pub listings : Form Listings
listings = list metadata_log_entry & list partition_spec & properties & list named_ref & list schema

unfoldable pub others : Form Others
others = list snapshot_log_entry & list snapshot & list sort_order & bytes_of 16

abbrev pub chosen_in : TableMetadata → Chosen
chosen_in meta =
    (meta.current_schema_id, (meta.current_snapshot_id, (meta.default_sort_order_id, (meta.default_spec_id, meta.format_version))))

abbrev pub lasts_in : TableMetadata → Lasts
lasts_in meta = (meta.last_column_id, (meta.last_partition_id, (meta.last_sequence_number, (meta.last_updated_ms, meta.location))))

abbrev pub listings_in : TableMetadata → Listings
listings_in meta = (meta.metadata_log, (meta.partition_specs, (meta.properties, (meta.refs, meta.schemas))))

abbrev pub others_in : TableMetadata → Others
others_in meta = (meta.snapshot_log, (meta.snapshots, (meta.sort_orders, meta.table_uuid)))

abbrev pub metadata_of : Chosen → Lasts → Listings → Others → TableMetadata
metadata_of first second third fourth = record {
  current_schema_id = first.0;
  current_snapshot_id = first.1.0;
  default_sort_order_id = first.1.1.0;
  default_spec_id = first.1.1.1.0;
  format_version = first.1.1.1.1;
  last_column_id = second.0;
  last_partition_id = second.1.0;
  last_sequence_number = second.1.1.0;
  last_updated_ms = second.1.1.1.0;
  location = second.1.1.1.1;
  metadata_log = third.0;
  partition_specs = third.1.0;
  properties = third.1.1.0;
  refs = third.1.1.1.0;
  schemas = third.1.1.1.1;
  snapshot_log = fourth.0;
  snapshots = fourth.1.0;
  sort_orders = fourth.1.1.0;
  table_uuid = fourth.1.1.1;
}

unfoldable pub metadata_fields : Form TableMetadata
metadata_fields = mapped (chosen & lasts & listings & others)
    (λ groups. metadata_of groups.0 groups.1.0 groups.1.1.0 groups.1.1.1)
    (λ meta. (chosen_in meta, (lasts_in meta, (listings_in meta, others_in meta))))
    (λ meta. refl) (λ groups. refl)

unfoldable pub metadata : Form TableMetadata
metadata = ruled metadata_fields IsWhole is_whole (λ meta held passes. whole-told meta passes) told-whole
