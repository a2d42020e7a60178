-- What `==` tells of the values of a metadata: only equal ones compare as equal, since each field is compared exactly.
use Rattle.std.specs.Prelude.{◌≡◌, ℕ, Bool, true, ◌&&◌, nat_eq, List, Option, Some, None, refl}
use Rattle.std.specs.Cmp.{first_so, second_so}
use Rattle.std.specs.Cmp.Lexicographic.{pointwise, same_text}
use Rattle.std.specs.Option.{option_eq}
use Rattle.std.proofs.Common.{sym, ap}
use Rattle.std.proofs.lemmas.Bool.{eqb-true}
use Rattle.pol_types.specs.Exact.{exactness, pointwise_exact}
use Rattle.pol_properties.specs.Properties.{same_pair_exact}
use Rattle.pol_meta.specs.declared.column.Kind.{Kind}
use Rattle.pol_meta.specs.contracts.column.KindPartialEq.TheImpl as kinds_compared
use Rattle.pol_meta.specs.declared.column.Part.{Part}
use Rattle.pol_meta.specs.contracts.column.PartPartialEq.TheImpl as parts_compared
use Rattle.pol_meta.specs.declared.column.Column.{Column}
use Rattle.pol_meta.specs.contracts.column.ColumnPartialEq.TheImpl as columns_compared
use Rattle.pol_meta.specs.declared.schema.Schema.{Schema}
use Rattle.pol_meta.specs.contracts.schema.SchemaPartialEq.TheImpl as schemas_compared
use Rattle.pol_meta.specs.declared.transform.Transform.{Transform}
use Rattle.pol_meta.specs.contracts.transform.TransformPartialEq.TheImpl as transforms_compared
use Rattle.pol_meta.specs.declared.partition.PartitionField.{PartitionField}
use Rattle.pol_meta.specs.contracts.partition.PartitionFieldPartialEq.TheImpl as partition_fields_compared
use Rattle.pol_meta.specs.declared.partition.PartitionSpec.{PartitionSpec}
use Rattle.pol_meta.specs.contracts.partition.PartitionSpecPartialEq.TheImpl as partition_specs_compared
use Rattle.pol_meta.specs.declared.partition.UnboundField.{UnboundField}
use Rattle.pol_meta.specs.contracts.partition.UnboundFieldPartialEq.TheImpl as unbound_fields_compared
use Rattle.pol_meta.specs.declared.partition.UnboundSpec.{UnboundSpec}
use Rattle.pol_meta.specs.contracts.partition.UnboundSpecPartialEq.TheImpl as unbound_specs_compared
use Rattle.pol_meta.specs.declared.sort.Direction.{Direction}
use Rattle.pol_meta.specs.contracts.sort.DirectionPartialEq.TheImpl as directions_compared
use Rattle.pol_meta.specs.declared.sort.NullOrder.{NullOrder}
use Rattle.pol_meta.specs.contracts.sort.NullOrderPartialEq.TheImpl as null_orders_compared
use Rattle.pol_meta.specs.declared.sort.SortField.{SortField}
use Rattle.pol_meta.specs.contracts.sort.SortFieldPartialEq.TheImpl as sort_fields_compared
use Rattle.pol_meta.specs.declared.sort.SortOrder.{SortOrder}
use Rattle.pol_meta.specs.contracts.sort.SortOrderPartialEq.TheImpl as sort_orders_compared
use Rattle.pol_meta.specs.declared.sort.UnboundOrder.{UnboundOrder}
use Rattle.pol_meta.specs.contracts.sort.UnboundOrderPartialEq.TheImpl as unbound_orders_compared
use Rattle.pol_meta.specs.declared.reference.RefKind.{RefKind}
use Rattle.pol_meta.specs.contracts.reference.RefKindPartialEq.TheImpl as ref_kinds_compared
use Rattle.pol_meta.specs.declared.reference.SnapshotRef.{SnapshotRef}
use Rattle.pol_meta.specs.contracts.reference.SnapshotRefPartialEq.TheImpl as snapshot_refs_compared
use Rattle.pol_meta.specs.declared.reference.NamedRef.{NamedRef}
use Rattle.pol_meta.specs.contracts.reference.NamedRefPartialEq.TheImpl as named_refs_compared
use Rattle.pol_meta.specs.declared.snapshot.Snapshot.{Snapshot}
use Rattle.pol_meta.specs.contracts.snapshot.SnapshotPartialEq.TheImpl as snapshots_compared
use Rattle.pol_meta.specs.declared.log.MetadataLogEntry.{MetadataLogEntry}
use Rattle.pol_meta.specs.contracts.log.MetadataLogEntryPartialEq.TheImpl as metadata_log_entries_compared
use Rattle.pol_meta.specs.declared.log.SnapshotLogEntry.{SnapshotLogEntry}
use Rattle.pol_meta.specs.contracts.log.SnapshotLogEntryPartialEq.TheImpl as snapshot_log_entries_compared
use Rattle.pol_meta.specs.declared.metadata.TableMetadata.{TableMetadata}
use Rattle.pol_meta.specs.contracts.metadata.TableMetadataPartialEq.TheImpl as table_metadata_compared

-- two comparisons that both hold tell what each of them tells
pub both : {P Q : Type 0} {a b : Bool} → (a ≡ true → P) → (b ≡ true → Q) → (a && b) ≡ true → P × Q
both {P} {Q} {a} {b} first second same = (first (first_so a b same), second (second_so a b same))

pub numbers_exact : (left right : ℕ) → nat_eq left right ≡ true → left ≡ right
numbers_exact left right same = eqb-true left right same

pub texts_exact : (left right : List ℕ) → pointwise nat_eq left right ≡ true → left ≡ right
texts_exact left right same = same_text left right (sym same)

pub options_exact : {A : Type 0} {E : A → A → Bool} → ((x y : A) → E x y ≡ true → x ≡ y) → (left right : Option A)
    → option_eq E left right ≡ true → left ≡ right
options_exact exact None None same = refl
options_exact exact None (Some y) same = cc
options_exact exact (Some x) None same = cc
options_exact exact (Some x) (Some y) same = ap Some (exact x y same)

pub kinds_exact : (left right : Kind)
    → (kinds_compared.ghosts).eq left right ≡ true → left ≡ right
kinds_exact left right same = grind exactness

pub parts_exact : (left right : Part)
    → (parts_compared.ghosts).eq left right ≡ true → left ≡ right
parts_exact left right same = grind exactness

pub columns_exact : (left right : Column)
    → (columns_compared.ghosts).eq left right ≡ true → left ≡ right
columns_exact left right same =
    let told =
    both (numbers_exact left.depth right.depth)
    (both (numbers_exact left.id right.id)
    (both (parts_exact left.part right.part)
    (kinds_exact left.kind right.kind))) same
    in
    λ i. record {
      depth = told.0 i;
      id = told.1.0 i;
      part = told.1.1.0 i;
      kind = told.1.1.1 i;
    }

pub schemas_exact : (left right : Schema)
    → (schemas_compared.ghosts).eq left right ≡ true → left ≡ right
schemas_exact left right same =
    let told =
    both (numbers_exact left.schema_id right.schema_id)
    (both (texts_exact left.identifier_field_ids right.identifier_field_ids)
    (pointwise_exact columns_exact left.fields right.fields)) same
    in
    λ i. record {
      schema_id = told.0 i;
      identifier_field_ids = told.1.0 i;
      fields = told.1.1 i;
    }

pub transforms_exact : (left right : Transform)
    → (transforms_compared.ghosts).eq left right ≡ true → left ≡ right
transforms_exact left right same = grind exactness

pub partition_fields_exact : (left right : PartitionField)
    → (partition_fields_compared.ghosts).eq left right ≡ true → left ≡ right
partition_fields_exact left right same =
    let told =
    both (numbers_exact left.source_id right.source_id)
    (both (numbers_exact left.field_id right.field_id)
    (both (texts_exact left.name right.name)
    (transforms_exact left.transform right.transform))) same
    in
    λ i. record {
      source_id = told.0 i;
      field_id = told.1.0 i;
      name = told.1.1.0 i;
      transform = told.1.1.1 i;
    }

pub partition_specs_exact : (left right : PartitionSpec)
    → (partition_specs_compared.ghosts).eq left right ≡ true → left ≡ right
partition_specs_exact left right same =
    let told =
    both (numbers_exact left.spec_id right.spec_id)
    (pointwise_exact partition_fields_exact left.fields right.fields) same
    in
    λ i. record {
      spec_id = told.0 i;
      fields = told.1 i;
    }

pub unbound_fields_exact : (left right : UnboundField)
    → (unbound_fields_compared.ghosts).eq left right ≡ true → left ≡ right
unbound_fields_exact left right same =
    let told =
    both (numbers_exact left.source_id right.source_id)
    (both (options_exact numbers_exact left.field_id right.field_id)
    (both (texts_exact left.name right.name)
    (transforms_exact left.transform right.transform))) same
    in
    λ i. record {
      source_id = told.0 i;
      field_id = told.1.0 i;
      name = told.1.1.0 i;
      transform = told.1.1.1 i;
    }

pub unbound_specs_exact : (left right : UnboundSpec)
    → (unbound_specs_compared.ghosts).eq left right ≡ true → left ≡ right
unbound_specs_exact left right same =
    let told = pointwise_exact unbound_fields_exact left.fields right.fields same in
    λ i. record { fields = told i }

pub directions_exact : (left right : Direction)
    → (directions_compared.ghosts).eq left right ≡ true → left ≡ right
directions_exact left right same = grind exactness

pub null_orders_exact : (left right : NullOrder)
    → (null_orders_compared.ghosts).eq left right ≡ true → left ≡ right
null_orders_exact left right same = grind exactness

pub sort_fields_exact : (left right : SortField)
    → (sort_fields_compared.ghosts).eq left right ≡ true → left ≡ right
sort_fields_exact left right same =
    let told =
    both (transforms_exact left.transform right.transform)
    (both (numbers_exact left.source_id right.source_id)
    (both (directions_exact left.direction right.direction)
    (null_orders_exact left.null_order right.null_order))) same
    in
    λ i. record {
      transform = told.0 i;
      source_id = told.1.0 i;
      direction = told.1.1.0 i;
      null_order = told.1.1.1 i;
    }

pub sort_orders_exact : (left right : SortOrder)
    → (sort_orders_compared.ghosts).eq left right ≡ true → left ≡ right
sort_orders_exact left right same =
    let told =
    both (numbers_exact left.order_id right.order_id)
    (pointwise_exact sort_fields_exact left.fields right.fields) same
    in
    λ i. record {
      order_id = told.0 i;
      fields = told.1 i;
    }

pub unbound_orders_exact : (left right : UnboundOrder)
    → (unbound_orders_compared.ghosts).eq left right ≡ true → left ≡ right
unbound_orders_exact left right same =
    let told = pointwise_exact sort_fields_exact left.fields right.fields same in
    λ i. record { fields = told i }

pub ref_kinds_exact : (left right : RefKind)
    → (ref_kinds_compared.ghosts).eq left right ≡ true → left ≡ right
ref_kinds_exact left right same = grind exactness

pub snapshot_refs_exact : (left right : SnapshotRef)
    → (snapshot_refs_compared.ghosts).eq left right ≡ true → left ≡ right
snapshot_refs_exact left right same =
    let told =
    both (ref_kinds_exact left.kind right.kind)
    (both (numbers_exact left.snapshot_id right.snapshot_id)
    (both (options_exact numbers_exact left.max_ref_age_ms right.max_ref_age_ms)
    (both (options_exact numbers_exact left.max_snapshot_age_ms right.max_snapshot_age_ms)
    (options_exact numbers_exact left.min_snapshots_to_keep right.min_snapshots_to_keep)))) same
    in
    λ i. record {
      kind = told.0 i;
      snapshot_id = told.1.0 i;
      max_ref_age_ms = told.1.1.0 i;
      max_snapshot_age_ms = told.1.1.1.0 i;
      min_snapshots_to_keep = told.1.1.1.1 i;
    }

pub named_refs_exact : (left right : NamedRef)
    → (named_refs_compared.ghosts).eq left right ≡ true → left ≡ right
named_refs_exact left right same =
    let told =
    both (texts_exact left.name right.name)
    (snapshot_refs_exact left.reference right.reference) same
    in
    λ i. record {
      name = told.0 i;
      reference = told.1 i;
    }

pub snapshots_exact : (left right : Snapshot)
    → (snapshots_compared.ghosts).eq left right ≡ true → left ≡ right
snapshots_exact left right same =
    let told =
    both (numbers_exact left.snapshot_id right.snapshot_id)
    (both (options_exact numbers_exact left.parent_snapshot_id right.parent_snapshot_id)
    (both (numbers_exact left.sequence_number right.sequence_number)
    (both (numbers_exact left.timestamp_ms right.timestamp_ms)
    (both (texts_exact left.manifest_list right.manifest_list)
    (both (pointwise_exact same_pair_exact left.summary right.summary)
    (options_exact numbers_exact left.schema_id right.schema_id)))))) same
    in
    λ i. record {
      snapshot_id = told.0 i;
      parent_snapshot_id = told.1.0 i;
      sequence_number = told.1.1.0 i;
      timestamp_ms = told.1.1.1.0 i;
      manifest_list = told.1.1.1.1.0 i;
      summary = told.1.1.1.1.1.0 i;
      schema_id = told.1.1.1.1.1.1 i;
    }

pub metadata_log_entries_exact : (left right : MetadataLogEntry)
    → (metadata_log_entries_compared.ghosts).eq left right ≡ true → left ≡ right
metadata_log_entries_exact left right same =
    let told =
    both (texts_exact left.metadata_file right.metadata_file)
    (numbers_exact left.timestamp_ms right.timestamp_ms) same
    in
    λ i. record {
      metadata_file = told.0 i;
      timestamp_ms = told.1 i;
    }

pub snapshot_log_entries_exact : (left right : SnapshotLogEntry)
    → (snapshot_log_entries_compared.ghosts).eq left right ≡ true → left ≡ right
snapshot_log_entries_exact left right same =
    let told =
    both (numbers_exact left.snapshot_id right.snapshot_id)
    (numbers_exact left.timestamp_ms right.timestamp_ms) same
    in
    λ i. record {
      snapshot_id = told.0 i;
      timestamp_ms = told.1 i;
    }

pub table_metadata_exact : (left right : TableMetadata)
    → (table_metadata_compared.ghosts).eq left right ≡ true → left ≡ right
table_metadata_exact left right same =
    let told =
    both (numbers_exact left.current_schema_id right.current_schema_id)
    (both (options_exact numbers_exact left.current_snapshot_id right.current_snapshot_id)
    (both (numbers_exact left.default_sort_order_id right.default_sort_order_id)
    (both (numbers_exact left.default_spec_id right.default_spec_id)
    (both (numbers_exact left.format_version right.format_version)
    (both (numbers_exact left.last_column_id right.last_column_id)
    (both (numbers_exact left.last_partition_id right.last_partition_id)
    (both (numbers_exact left.last_sequence_number right.last_sequence_number)
    (both (numbers_exact left.last_updated_ms right.last_updated_ms)
    (both (texts_exact left.location right.location)
    (both (pointwise_exact metadata_log_entries_exact left.metadata_log right.metadata_log)
    (both (pointwise_exact partition_specs_exact left.partition_specs right.partition_specs)
    (both (pointwise_exact same_pair_exact left.properties right.properties)
    (both (pointwise_exact named_refs_exact left.refs right.refs)
    (both (pointwise_exact schemas_exact left.schemas right.schemas)
    (both (pointwise_exact snapshot_log_entries_exact left.snapshot_log right.snapshot_log)
    (both (pointwise_exact snapshots_exact left.snapshots right.snapshots)
    (both (pointwise_exact sort_orders_exact left.sort_orders right.sort_orders)
    (texts_exact left.table_uuid right.table_uuid)))))))))))))))))) same
    in
    λ i. record {
      current_schema_id = told.0 i;
      current_snapshot_id = told.1.0 i;
      default_sort_order_id = told.1.1.0 i;
      default_spec_id = told.1.1.1.0 i;
      format_version = told.1.1.1.1.0 i;
      last_column_id = told.1.1.1.1.1.0 i;
      last_partition_id = told.1.1.1.1.1.1.0 i;
      last_sequence_number = told.1.1.1.1.1.1.1.0 i;
      last_updated_ms = told.1.1.1.1.1.1.1.1.0 i;
      location = told.1.1.1.1.1.1.1.1.1.0 i;
      metadata_log = told.1.1.1.1.1.1.1.1.1.1.0 i;
      partition_specs = told.1.1.1.1.1.1.1.1.1.1.1.0 i;
      properties = told.1.1.1.1.1.1.1.1.1.1.1.1.0 i;
      refs = told.1.1.1.1.1.1.1.1.1.1.1.1.1.0 i;
      schemas = told.1.1.1.1.1.1.1.1.1.1.1.1.1.1.0 i;
      snapshot_log = told.1.1.1.1.1.1.1.1.1.1.1.1.1.1.1.0 i;
      snapshots = told.1.1.1.1.1.1.1.1.1.1.1.1.1.1.1.1.0 i;
      sort_orders = told.1.1.1.1.1.1.1.1.1.1.1.1.1.1.1.1.1.0 i;
      table_uuid = told.1.1.1.1.1.1.1.1.1.1.1.1.1.1.1.1.1.1 i;
    }
