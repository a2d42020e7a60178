-- A part that has a form keeps the rules of the Iceberg table spec.
use Rattle.std.proofs.Common.{◌≤◌, ℕ, List, [], ◌∷◌, All, IfSome, Option, Some, None, arith}
use Rattle.std.specs.List.{AllByRecursion}
use Rattle.std.proofs.lemmas.List.Elements.{All-from_recursion}
use Rattle.pol_forms.specs.Enums.{optional}
use Rattle.pol_forms.specs.Form.{Form}
use Rattle.pol_forms.specs.Forms.{list}
use Rattle.pol_meta.specs.Valid.{IsColumnId, IsFieldId, IsId, IsKept, IsLong, IsMetadataLogEntry, IsNamedRef, IsPartitionField, IsPartitionSpec, IsSize, IsSnapshot, IsSnapshotLogEntry, IsSortField, IsSortOrder, IsTransform}
use Rattle.pol_meta.specs.declared.log.MetadataLogEntry.{MetadataLogEntry}
use Rattle.pol_meta.specs.declared.log.SnapshotLogEntry.{SnapshotLogEntry}
use Rattle.pol_meta.specs.declared.partition.PartitionField.{PartitionField}
use Rattle.pol_meta.specs.declared.partition.PartitionSpec.{PartitionSpec}
use Rattle.pol_meta.specs.declared.reference.NamedRef.{NamedRef}
use Rattle.pol_meta.specs.declared.snapshot.Snapshot.{Snapshot}
use Rattle.pol_meta.specs.declared.sort.SortField.{SortField}
use Rattle.pol_meta.specs.declared.sort.SortOrder.{SortOrder}
use Rattle.pol_meta.specs.declared.transform.Transform.{Transform}
use Rattle.pol_meta.specs.declared.transform.Transform.TheVariants.{Identity, Void, Year, Month, Day, Hour, Bucket, Truncate}
use Rattle.pol_partcodec.specs.Numbers.{between, column_id, field_id, id, kept, long, short_between, size}
use Rattle.pol_partcodec.specs.Parts as parts

-- numbers
pub id_told : (n : ℕ) → id.holds n → IsId n
unfolding short_between
id_told n held = held.1.below

pub column_id_told : (n : ℕ) → column_id.holds n → IsColumnId n
unfolding short_between
column_id_told n held = held.1.below

field_id_told : (n : ℕ) → field_id.holds n → IsFieldId n
unfolding short_between
field_id_told n held = record { least = held.1.above; most = held.1.below }

size_told : (n : ℕ) → size.holds n → IsSize n
unfolding short_between
size_told n held = record { least = held.1.above; most = held.1.below }

pub long_told : (n : ℕ) → long.holds n → IsLong n
unfolding between
long_told n held = let most : n ≤ 9223372036854775807 = held.1.below in omega (arith, most)

kept_told : (n : ℕ) → kept.holds n → IsKept n
unfolding between
kept_told n held =
    let most : n ≤ 9223372036854775807 = held.1.below in
    record { least = held.1.above; most = omega (arith, most) }

-- what holds of each, and of one that is there
module _ {A : Type 0} (form : Form A) (Is : A → Type 0) (tells : (value : A) → form.holds value → Is value) where
  each_is : (values : List A) → AllByRecursion form.holds values → AllByRecursion Is values
  each_is [] held = tt
  each_is (value ∷ values) held = (tells value held.0, each_is values held.1)

  pub list_told : (values : List A) → (list form).holds values → All Is values
  unfolding list
  list_told values held = All-from_recursion Is values (each_is values held.1)

  pub optional_told : (given : Option A) → (optional form).holds given → IfSome given Is
  unfolding optional
  optional_told None held = tt
  optional_told (Some value) held = tells value held

-- parts
transform_told : (transform : Transform) → parts.transform.holds transform → IsTransform transform
unfolding parts.transform
transform_told Identity held = tt
transform_told Void held = tt
transform_told Year held = tt
transform_told Month held = tt
transform_told Day held = tt
transform_told Hour held = tt
transform_told (Bucket buckets) held = size_told buckets held
transform_told (Truncate width) held = size_told width held

partition_field_told : (field : PartitionField) → parts.partition_field.holds field → IsPartitionField field
unfolding parts.partition_field
partition_field_told field held = record {
  source = column_id_told field.source_id held.0;
  id = field_id_told field.field_id held.1.0;
  transform = transform_told field.transform held.1.1.1;
}

pub partition_spec_told : (spec : PartitionSpec) → parts.partition_spec.holds spec → IsPartitionSpec spec
unfolding parts.partition_spec
partition_spec_told spec held = record {
  id = id_told spec.spec_id held.0;
  fields = list_told parts.partition_field IsPartitionField partition_field_told spec.fields held.1;
}

sort_field_told : (field : SortField) → parts.sort_field.holds field → IsSortField field
unfolding parts.sort_field
sort_field_told field held = record {
  source = column_id_told field.source_id held.1.0;
  transform = transform_told field.transform held.0;
}

pub sort_order_told : (order : SortOrder) → parts.sort_order.holds order → IsSortOrder order
unfolding parts.sort_order
sort_order_told order held = record {
  id = id_told order.order_id held.0;
  fields = list_told parts.sort_field IsSortField sort_field_told order.fields held.1;
}

pub metadata_log_entry_told : (entry : MetadataLogEntry) → parts.metadata_log_entry.holds entry → IsMetadataLogEntry entry
unfolding parts.metadata_log_entry
metadata_log_entry_told entry held = long_told entry.timestamp_ms held.1

pub snapshot_log_entry_told : (entry : SnapshotLogEntry) → parts.snapshot_log_entry.holds entry → IsSnapshotLogEntry entry
unfolding parts.snapshot_log_entry
snapshot_log_entry_told entry held = record {
  snapshot = long_told entry.snapshot_id held.0;
  time = long_told entry.timestamp_ms held.1;
}

pub named_ref_told : (named : NamedRef) → parts.named_ref.holds named → IsNamedRef named
unfolding parts.named_ref parts.snapshot_ref
named_ref_told named held =
    let one = named.reference in record {
      snapshot = long_told one.snapshot_id held.1.1.0;
      age = optional_told kept IsKept kept_told one.max_ref_age_ms held.1.1.1.0;
      snapshot_age = optional_told kept IsKept kept_told one.max_snapshot_age_ms held.1.1.1.1.0;
      snapshots = optional_told kept IsKept kept_told one.min_snapshots_to_keep held.1.1.1.1.1;
    }

pub snapshot_told : (one : Snapshot) → parts.snapshot.holds one → IsSnapshot one
unfolding parts.snapshot parts.snapshot_fields
snapshot_told one held = record {
  id = long_told one.snapshot_id held.0.0;
  parent = optional_told long IsLong long_told one.parent_snapshot_id held.0.1.0;
  sequence = long_told one.sequence_number held.0.1.1.0;
  time = long_told one.timestamp_ms held.0.1.1.1.0;
  operation = held.1;
  schema = optional_told id IsId id_told one.schema_id held.0.1.1.1.1.1.1;
}
