-- A part that keeps the rules of the Iceberg table spec has a form: each of its fields has one.
use Rattle.std.proofs.Common.{ℕ, List, All, IfSome, Option, Some, None, arith}
use Rattle.std.specs.Prelude.{⊤}
use Rattle.std.specs.List.{AllByRecursion}
use Rattle.std.proofs.lemmas.List.Elements.{recursion_from_All}
use Rattle.pol_forms.specs.Enums.{IfPresent, optional}
use Rattle.pol_forms.specs.Forms.{list, text}
use Rattle.pol_forms.specs.Names.{properties}
use Rattle.pol_meta.specs.Valid.{IsColumnId, IsFieldId, IsId, IsKept, IsLong, IsMetadataLogEntry, IsNamedRef, IsPartitionField, IsPartitionSpec, IsSize, IsSnapshot, IsSnapshotLogEntry, IsSortField, IsSortOrder, IsTransform}
use Rattle.pol_meta.specs.declared.log.MetadataLogEntry.{MetadataLogEntry}
use Rattle.pol_meta.specs.declared.log.SnapshotLogEntry.{SnapshotLogEntry}
use Rattle.pol_meta.specs.declared.partition.PartitionField.{PartitionField}
use Rattle.pol_meta.specs.declared.partition.PartitionSpec.{PartitionSpec}
use Rattle.pol_meta.specs.declared.reference.NamedRef.{NamedRef}
use Rattle.pol_meta.specs.declared.reference.SnapshotRef.{SnapshotRef}
use Rattle.pol_meta.specs.declared.snapshot.Snapshot.{Snapshot}
use Rattle.pol_meta.specs.declared.sort.SortField.{SortField}
use Rattle.pol_meta.specs.declared.sort.SortOrder.{SortOrder}
use Rattle.pol_partcodec.specs.Numbers.{IsBetween, column_id, field_id, id, kept, long}
use Rattle.pol_partcodec.specs.Parts as parts
use Rattle.pol_partcodec.specs.Parts.{IsRef}

-- numbers within their bounds
pub id_between : (n : ℕ) → IsId n → IsBetween 0 2147483647 n
id_between n right = record { above = omega arith; below = right }

pub column_id_between : (n : ℕ) → IsColumnId n → IsBetween 0 2147483447 n
column_id_between n right = record { above = omega arith; below = right }

pub field_id_between : (n : ℕ) → IsFieldId n → IsBetween 1000 2147483647 n
field_id_between n right = record { above = right.least; below = right.most }

pub size_held : (n : ℕ) → IsSize n → IsBetween 1 2147483647 n
size_held n right = record { above = right.least; below = right.most }

pub long_between : (n : ℕ) → IsLong n → IsBetween 0 9223372036854775807 n
long_between n right = record { above = omega arith; below = omega (arith, right) }

pub kept_between : (n : ℕ) → IsKept n → IsBetween 1 9223372036854775807 n
kept_between n right = let most : IsLong n = right.most in record { above = right.least; below = omega (arith, most) }

pub if_present : (P Q : ℕ → Type 0) → ((n : ℕ) → P n → Q n) → (given : Option ℕ) → IfSome given P → IfPresent Q given
if_present P Q tells None right = tt
if_present P Q tells (Some n) right = tells n right

pub each : {A : Type 0} (P : A → Type 0) (xs : List A) → All P xs → AllByRecursion P xs
each P xs all = recursion_from_All P xs all

pub partition_field_held : (field : PartitionField) → (IsBetween 0 2147483447 field.source_id → column_id.holds field.source_id)
    → (IsBetween 1000 2147483647 field.field_id → field_id.holds field.field_id) → (⊤ → text.holds field.name) → (IsTransform field.transform → parts.transform.holds field.transform)
    → IsPartitionField field → parts.partition_field.holds field
unfolding parts.partition_field
partition_field_held field source own name transform right =
    (source (column_id_between field.source_id right.source), (own (field_id_between field.field_id right.id), (name tt, transform right.transform)))

pub partition_spec_held : (spec : PartitionSpec) → (IsBetween 0 2147483647 spec.spec_id → id.holds spec.spec_id)
    → (AllByRecursion IsPartitionField spec.fields → (list parts.partition_field).holds spec.fields)
    → IsPartitionSpec spec → parts.partition_spec.holds spec
unfolding parts.partition_spec
partition_spec_held spec own fields right =
    (own (id_between spec.spec_id right.id), fields (each IsPartitionField spec.fields right.fields))

pub sort_field_held : (field : SortField) → (IsTransform field.transform → parts.transform.holds field.transform)
    → (IsBetween 0 2147483447 field.source_id → column_id.holds field.source_id) → (⊤ → parts.direction.holds field.direction) → (⊤ → parts.null_order.holds field.null_order)
    → IsSortField field → parts.sort_field.holds field
unfolding parts.sort_field
sort_field_held field transform source direction nulls right =
    (transform right.transform, (source (column_id_between field.source_id right.source), (direction tt, nulls tt)))

pub sort_order_held : (order : SortOrder) → (IsBetween 0 2147483647 order.order_id → id.holds order.order_id)
    → (AllByRecursion IsSortField order.fields → (list parts.sort_field).holds order.fields)
    → IsSortOrder order → parts.sort_order.holds order
unfolding parts.sort_order
sort_order_held order own fields right =
    (own (id_between order.order_id right.id), fields (each IsSortField order.fields right.fields))

pub metadata_log_entry_held : (entry : MetadataLogEntry) → (⊤ → text.holds entry.metadata_file) → (IsBetween 0 9223372036854775807 entry.timestamp_ms → long.holds entry.timestamp_ms)
    → IsMetadataLogEntry entry → parts.metadata_log_entry.holds entry
unfolding parts.metadata_log_entry
metadata_log_entry_held entry file time right = (file tt, time (long_between entry.timestamp_ms right))

pub snapshot_log_entry_held : (entry : SnapshotLogEntry) → (IsBetween 0 9223372036854775807 entry.snapshot_id → long.holds entry.snapshot_id)
    → (IsBetween 0 9223372036854775807 entry.timestamp_ms → long.holds entry.timestamp_ms)
    → IsSnapshotLogEntry entry → parts.snapshot_log_entry.holds entry
unfolding parts.snapshot_log_entry
snapshot_log_entry_held entry own time right =
    (own (long_between entry.snapshot_id right.snapshot), time (long_between entry.timestamp_ms right.time))

pub snapshot_ref_held : (one : SnapshotRef) → (⊤ → parts.ref_kind.holds one.kind) → (IsBetween 0 9223372036854775807 one.snapshot_id → long.holds one.snapshot_id)
    → (IfPresent (IsBetween 1 9223372036854775807) one.max_ref_age_ms → (optional kept).holds one.max_ref_age_ms)
    → (IfPresent (IsBetween 1 9223372036854775807) one.max_snapshot_age_ms → (optional kept).holds one.max_snapshot_age_ms)
    → (IfPresent (IsBetween 1 9223372036854775807) one.min_snapshots_to_keep → (optional kept).holds one.min_snapshots_to_keep)
    → IsRef one → parts.snapshot_ref.holds one
unfolding parts.snapshot_ref
snapshot_ref_held one kind snapshot age snapshot_age snapshots right = (
  kind tt,
  (
    snapshot (long_between one.snapshot_id right.snapshot),
    (
      age (if_present IsKept (IsBetween 1 9223372036854775807) kept_between one.max_ref_age_ms right.age),
      (
        snapshot_age (if_present IsKept (IsBetween 1 9223372036854775807) kept_between one.max_snapshot_age_ms right.snapshot_age),
        snapshots (if_present IsKept (IsBetween 1 9223372036854775807) kept_between one.min_snapshots_to_keep right.snapshots),
      ),
    ),
  ),
)

pub named_ref_held : (named : NamedRef) → (⊤ → text.holds named.name) → (IsRef named.reference → parts.snapshot_ref.holds named.reference)
    → IsNamedRef named → parts.named_ref.holds named
unfolding parts.named_ref
named_ref_held named name reference right =
    (name tt, reference (record { snapshot = right.snapshot; age = right.age; snapshot_age = right.snapshot_age; snapshots = right.snapshots }))

pub snapshot_held : (one : Snapshot) → (IsBetween 0 9223372036854775807 one.snapshot_id → long.holds one.snapshot_id)
    → (IfPresent (IsBetween 0 9223372036854775807) one.parent_snapshot_id → (optional long).holds one.parent_snapshot_id)
    → (IsBetween 0 9223372036854775807 one.sequence_number → long.holds one.sequence_number)
    → (IsBetween 0 9223372036854775807 one.timestamp_ms → long.holds one.timestamp_ms)
    → (⊤ → text.holds one.manifest_list) → (⊤ → properties.holds one.summary)
    → (IfPresent (IsBetween 0 2147483647) one.schema_id → (optional id).holds one.schema_id)
    → IsSnapshot one → parts.snapshot.holds one
unfolding parts.snapshot parts.snapshot_fields
snapshot_held one own parent sequence time manifests summary schema right = (
  (
    own (long_between one.snapshot_id right.id),
    (
      parent (if_present IsLong (IsBetween 0 9223372036854775807) long_between one.parent_snapshot_id right.parent),
      (
        sequence (long_between one.sequence_number right.sequence),
        (
          time (long_between one.timestamp_ms right.time),
          (
            manifests tt,
            (
              summary tt,
              schema (if_present IsId (IsBetween 0 2147483647) id_between one.schema_id right.schema),
            ),
          ),
        ),
      ),
    ),
  ),
  right.operation,
)
