-- What updates weigh: the lengths of all their texts, and 64 for each update and for each field, snapshot, reference and
-- property in it. One that isn't served weighs 64, whatever its name.
use Rattle.std.specs.Prelude.{ℕ, ◌+◌, List, length, sum_by}
use Rattle.pol_meta.specs.Weight.{properties_weight, schema_weight, snapshot_weight, unbound_order_weight, unbound_spec_weight}
use Rattle.pol_updates.specs.declared.update.Update.{Update}
use Rattle.pol_updates.specs.declared.update.Update.TheVariants.{AssignUuid, UpgradeFormatVersion, AddSchema, SetCurrentSchema, AddSpec, SetDefaultSpec, AddSortOrder, SetDefaultSortOrder, AddSnapshot, SetSnapshotRef, RemoveSnapshots, RemoveSnapshotRef, SetLocation, SetProperties, RemoveProperties, RemovePartitionSpecs, RemoveSchemas, Unsupported}

abbrev pub content_weight : Update → ℕ
content_weight (AssignUuid uuid) = 0
content_weight (UpgradeFormatVersion version) = 0
content_weight (AddSchema schema) = schema_weight schema
content_weight (SetCurrentSchema member) = 0
content_weight (AddSpec spec) = unbound_spec_weight spec
content_weight (SetDefaultSpec member) = 0
content_weight (AddSortOrder order) = unbound_order_weight order
content_weight (SetDefaultSortOrder member) = 0
content_weight (AddSnapshot snapshot) = snapshot_weight snapshot
content_weight (SetSnapshotRef name reference) = 64 + length name
content_weight (RemoveSnapshots ids) = 0
content_weight (RemoveSnapshotRef name) = length name
content_weight (SetLocation location) = length location
content_weight (SetProperties updates) = properties_weight updates
content_weight (RemoveProperties removals) = sum_by length removals
content_weight (RemovePartitionSpecs ids) = 0
content_weight (RemoveSchemas ids) = 0
content_weight (Unsupported action) = 0

abbrev pub update_weight : Update → ℕ
update_weight update = 64 + content_weight update

abbrev pub updates_weight : List Update → ℕ
updates_weight updates = sum_by update_weight updates
