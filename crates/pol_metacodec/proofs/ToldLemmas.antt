-- A schema and a metadata that have a form keep the rules of the Iceberg table spec.
use Rattle.std.proofs.Common.{◌≡◌, ◌≤◌, ℕ, arith}
use Rattle.pol_meta.specs.Valid.{IsLong, IsMetadataLogEntry, IsNamedRef, IsPartitionSpec, IsSchema, IsSnapshot, IsSnapshotLogEntry, IsSortOrder, IsValid}
use Rattle.pol_meta.specs.declared.metadata.TableMetadata.{TableMetadata}
use Rattle.pol_meta.specs.declared.schema.Schema.{Schema}
use Rattle.pol_columnforms.proofs.ToldLemmas.{columns_told}
use Rattle.pol_columnforms.specs.Columns.{AreColumns}
use Rattle.pol_partcodec.proofs.ToldLemmas.{column_id_told, id_told, list_told, long_told, metadata_log_entry_told, named_ref_told, optional_told, partition_spec_told, snapshot_log_entry_told, snapshot_told, sort_order_told}
use Rattle.pol_partcodec.specs.Numbers.{last_field_id, long, short_between, version}
use Rattle.pol_partcodec.specs.Parts as parts
use Rattle.pol_metacodec.specs.Metadata.{chosen, lasts, listings, metadata, metadata_fields, others, schema, schema_fields}

pub schema_told : (one : Schema) → schema.holds one → IsSchema one
unfolding schema schema_fields
schema_told one held =
    let fields : AreColumns one.fields = columns_told one.fields held.0.1.1 in record {
      id = id_told one.schema_id held.0.0;
      columns = fields.each;
      nested = fields.nested;
      differ = held.1.differ;
      identified = held.1.identified;
    }

version_told : (n : ℕ) → version.holds n → n ≡ 2
unfolding short_between
version_told n held =
    let above : 2 ≤ n = held.1.above in
    let below : n ≤ 2 = held.1.below in
    omega (arith, above, below)

last_field_told : (n : ℕ) → last_field_id.holds n → (999 ≤ n) × (n ≤ 2147483647)
unfolding short_between
last_field_told n held = (held.1.above, held.1.below)

pub metadata_told : (meta : TableMetadata) → metadata.holds meta → IsValid meta
unfolding metadata metadata_fields chosen lasts listings others
metadata_told meta held =
    let first = held.0.0 in
    let second = held.0.1.0 in
    let third = held.0.1.1.0 in
    let fourth = held.0.1.1.1 in
    let last = last_field_told meta.last_partition_id second.1.0 in record {
      forms = record {
        version = version_told meta.format_version first.1.1.1.1;
        current_schema = id_told meta.current_schema_id first.0;
        current_snapshot = optional_told long IsLong long_told meta.current_snapshot_id first.1.0;
        default_order = id_told meta.default_sort_order_id first.1.1.0;
        default_spec = id_told meta.default_spec_id first.1.1.1.0;
        schemas = list_told schema IsSchema schema_told meta.schemas third.1.1.1.1;
        specs = list_told parts.partition_spec IsPartitionSpec partition_spec_told meta.partition_specs third.1.0;
        orders = list_told parts.sort_order IsSortOrder sort_order_told meta.sort_orders fourth.1.1.0;
        snapshots = list_told parts.snapshot IsSnapshot snapshot_told meta.snapshots fourth.1.0;
        refs = list_told parts.named_ref IsNamedRef named_ref_told meta.refs third.1.1.1.0;
        ordered = held.1.ordered;
        metadata_log = list_told parts.metadata_log_entry IsMetadataLogEntry metadata_log_entry_told meta.metadata_log third.0;
        snapshot_log = list_told parts.snapshot_log_entry IsSnapshotLogEntry snapshot_log_entry_told meta.snapshot_log fourth.0;
        column = column_id_told meta.last_column_id second.0;
        partition_least = last.0;
        partition_most = last.1;
        sequence = long_told meta.last_sequence_number second.1.1.0;
        updated = long_told meta.last_updated_ms second.1.1.1.0;
      };
      ids = held.1.ids;
      members = held.1.members;
    }
