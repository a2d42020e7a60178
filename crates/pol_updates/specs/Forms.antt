-- Updates each of whose parts has its form, as reading a commit promises.
use Rattle.std.specs.Prelude.{All}
use Rattle.std.specs.Bool.{⊤}
use Rattle.pol_meta.specs.Valid.{IsNamedRef, IsSchema, IsSnapshot, IsSortField, IsUnboundField}
use Rattle.pol_updates.specs.declared.update.Update.{Update}
use Rattle.pol_updates.specs.declared.update.Update.TheVariants.{AssignUuid, UpgradeFormatVersion, AddSchema, SetCurrentSchema, AddSpec, SetDefaultSpec, AddSortOrder, SetDefaultSortOrder, AddSnapshot, SetSnapshotRef, RemoveSnapshots, RemoveSnapshotRef, SetLocation, SetProperties, RemoveProperties, RemovePartitionSpecs, RemoveSchemas, Unsupported}

abbrev pub HasForm : Update → Type 0
HasForm (AssignUuid uuid) = ⊤
HasForm (UpgradeFormatVersion version) = ⊤
HasForm (AddSchema schema) = IsSchema schema
HasForm (SetCurrentSchema member) = ⊤
HasForm (AddSpec spec) = All IsUnboundField spec.fields
HasForm (SetDefaultSpec member) = ⊤
HasForm (AddSortOrder order) = All IsSortField order.fields
HasForm (SetDefaultSortOrder member) = ⊤
HasForm (AddSnapshot snapshot) = IsSnapshot snapshot
HasForm (SetSnapshotRef name reference) = IsNamedRef (record { name = name; reference = reference })
HasForm (RemoveSnapshots ids) = ⊤
HasForm (RemoveSnapshotRef name) = ⊤
HasForm (SetLocation location) = ⊤
HasForm (SetProperties updates) = ⊤
HasForm (RemoveProperties removals) = ⊤
HasForm (RemovePartitionSpecs ids) = ⊤
HasForm (RemoveSchemas ids) = ⊤
HasForm (Unsupported action) = ⊤
