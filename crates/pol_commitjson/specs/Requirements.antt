-- Requirements (Iceberg REST OpenAPI, TableRequirement).
use Rattle.std.specs.Prelude.{ℕ, List, [], ◌∷◌}
use Rattle.pol_commitjson.specs.declared.keys.TheConstants as key
use Rattle.pol_commitjson.specs.declared.requirements.RequirementType.{RequirementType}
use Rattle.pol_commitjson.specs.declared.requirements.RequirementType.TheVariants.{AssertCreate, AssertTableUuid, AssertRefSnapshotId, AssertLastAssignedFieldId, AssertCurrentSchemaId, AssertLastAssignedPartitionId, AssertDefaultSpecId, AssertDefaultSortOrderId}
use Rattle.pol_metajson.specs.Ids.{column_id, id}
use Rattle.pol_metakeys.specs.declared.keys.TheConstants as meta_key
use Rattle.pol_metaread.specs.Ids.{long}
use Rattle.pol_metaread.specs.Metadata.{uuid}
use Rattle.pol_readers.specs.Shape.{Shape, ◌>>=◌, an_object, done, field, one_of, optional, text}
use Rattle.pol_requirements.specs.declared.requirement.Requirement.{Requirement}
use Rattle.pol_requirements.specs.declared.requirement.Requirement.TheVariants as requires

abbrev pub type_words : List (List ℕ × RequirementType)
type_words =
    (key.ASSERT_CREATE.now, AssertCreate) ∷ (key.ASSERT_TABLE_UUID.now, AssertTableUuid)
    ∷ (key.ASSERT_REF_SNAPSHOT_ID.now, AssertRefSnapshotId)
    ∷ (key.ASSERT_LAST_ASSIGNED_FIELD_ID.now, AssertLastAssignedFieldId)
    ∷ (key.ASSERT_CURRENT_SCHEMA_ID.now, AssertCurrentSchemaId)
    ∷ (key.ASSERT_LAST_ASSIGNED_PARTITION_ID.now, AssertLastAssignedPartitionId)
    ∷ (key.ASSERT_DEFAULT_SPEC_ID.now, AssertDefaultSpecId)
    ∷ (key.ASSERT_DEFAULT_SORT_ORDER_ID.now, AssertDefaultSortOrderId) ∷ []

unfoldable pub requirement_type : Shape RequirementType
requirement_type = one_of type_words

-- what a requirement of a type asks
unfoldable pub requirement_of : RequirementType → Shape Requirement
requirement_of AssertCreate = done requires.AssertCreate
requirement_of AssertTableUuid = do
  named ← field key.UUID.now uuid
  done (requires.AssertTableUuid named)
requirement_of AssertRefSnapshotId = do
  named ← field key.REF.now text
  snapshot ← optional meta_key.SNAPSHOT_ID.now long
  done (requires.AssertRefSnapshotId named snapshot)
requirement_of AssertLastAssignedFieldId = do
  last ← field key.LAST_ASSIGNED_FIELD_ID.now column_id
  done (requires.AssertLastAssignedFieldId last)
requirement_of AssertCurrentSchemaId = do
  current ← field meta_key.CURRENT_SCHEMA_ID.now id
  done (requires.AssertCurrentSchemaId current)
requirement_of AssertLastAssignedPartitionId = do
  last ← field key.LAST_ASSIGNED_PARTITION_ID.now id
  done (requires.AssertLastAssignedPartitionId last)
requirement_of AssertDefaultSpecId = do
  default ← field meta_key.DEFAULT_SPEC_ID.now id
  done (requires.AssertDefaultSpecId default)
requirement_of AssertDefaultSortOrderId = do
  default ← field meta_key.DEFAULT_SORT_ORDER_ID.now id
  done (requires.AssertDefaultSortOrderId default)

unfoldable pub requirement : Shape Requirement
requirement = do
  _ ← an_object
  type ← field meta_key.TYPE.now requirement_type
  requirement_of type
