-- When a requirement of a commit holds of a table's metadata (Iceberg REST OpenAPI, TableRequirement).
use Rattle.std.specs.Prelude.{Bool, false, ◌==◌, nat_eq}
use Rattle.std.specs.Option.{option_eq}
use Rattle.std.specs.Str.{bytes_eq}
use Rattle.pol_meta.specs.Valid.{snapshot_named}
use Rattle.pol_meta.specs.declared.metadata.TableMetadata.{TableMetadata}
use Rattle.pol_requirements.specs.declared.requirement.Requirement.{Requirement}
use Rattle.pol_requirements.specs.declared.requirement.Requirement.TheVariants.{AssertCreate, AssertTableUuid, AssertRefSnapshotId, AssertLastAssignedFieldId, AssertCurrentSchemaId, AssertLastAssignedPartitionId, AssertDefaultSpecId, AssertDefaultSortOrderId}

abbrev pub is_met : TableMetadata → Requirement → Bool
is_met meta AssertCreate = false
is_met meta (AssertTableUuid uuid) = bytes_eq meta.table_uuid uuid
is_met meta (AssertRefSnapshotId reference snapshot_id) =
    option_eq nat_eq (snapshot_named reference meta.refs) snapshot_id
is_met meta (AssertLastAssignedFieldId id) = meta.last_column_id == id
is_met meta (AssertCurrentSchemaId id) = meta.current_schema_id == id
is_met meta (AssertLastAssignedPartitionId id) = meta.last_partition_id == id
is_met meta (AssertDefaultSpecId id) = meta.default_spec_id == id
is_met meta (AssertDefaultSortOrderId id) = meta.default_sort_order_id == id
