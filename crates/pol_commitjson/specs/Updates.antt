-- Updates (Iceberg REST OpenAPI, TableUpdate).
use Rattle.pol_commitjson.specs.Actions.{action}
use Rattle.pol_commitjson.specs.Members.{member}
use Rattle.pol_commitjson.specs.declared.action.Action.{Action}
use Rattle.pol_commitjson.specs.declared.action.Action.TheVariants.{Schemas, Specs, Orders, Snapshots, Texts, LeftOut}
use Rattle.pol_commitjson.specs.declared.action.OrderAction.{OrderAction}
use Rattle.pol_commitjson.specs.declared.action.OrderAction.TheVariants as orders
use Rattle.pol_commitjson.specs.declared.action.SchemaAction.{SchemaAction}
use Rattle.pol_commitjson.specs.declared.action.SchemaAction.TheVariants as schemas
use Rattle.pol_commitjson.specs.declared.action.SnapshotAction.{SnapshotAction}
use Rattle.pol_commitjson.specs.declared.action.SnapshotAction.TheVariants as snapshots
use Rattle.pol_commitjson.specs.declared.action.SpecAction.{SpecAction}
use Rattle.pol_commitjson.specs.declared.action.SpecAction.TheVariants as specs
use Rattle.pol_commitjson.specs.declared.action.TextAction.{TextAction}
use Rattle.pol_commitjson.specs.declared.action.TextAction.TheVariants as texts
use Rattle.pol_commitjson.specs.declared.keys.TheConstants as key
use Rattle.pol_metajson.specs.Ids.{id}
use Rattle.pol_metajson.specs.Order.{unbound_order}
use Rattle.pol_metajson.specs.Partition.{unbound_spec}
use Rattle.pol_metajson.specs.Schema.{schema}
use Rattle.pol_metajson.specs.Table.{text_map}
use Rattle.pol_metakeys.specs.declared.keys.TheConstants as meta_key
use Rattle.pol_metaread.specs.Ids.{long}
use Rattle.pol_metaread.specs.Metadata.{uuid}
use Rattle.pol_metaread.specs.Snapshot.{reference, snapshot}
use Rattle.pol_readers.specs.Shape.{Shape, ◌>>=◌, an_object, done, field, list, text}
use Rattle.pol_updates.specs.declared.update.Update.{Update}
use Rattle.pol_updates.specs.declared.update.Update.TheVariants.{AssignUuid, UpgradeFormatVersion, AddSchema, SetCurrentSchema, AddSpec, SetDefaultSpec, AddSortOrder, SetDefaultSortOrder, AddSnapshot, SetSnapshotRef, RemoveSnapshots, RemoveSnapshotRef, SetLocation, SetProperties, RemoveProperties, RemovePartitionSpecs, RemoveSchemas, Unsupported}

unfoldable pub schema_update : SchemaAction → Shape Update
schema_update schemas.Add = do
  added ← field meta_key.SCHEMA.now schema
  done (AddSchema added)
schema_update schemas.SetCurrent = do
  named ← field meta_key.SCHEMA_ID.now member
  done (SetCurrentSchema named)
schema_update schemas.Remove = do
  ids ← field key.SCHEMA_IDS.now (list id)
  done (RemoveSchemas ids)

unfoldable pub spec_update : SpecAction → Shape Update
spec_update specs.Add = do
  added ← field key.SPEC.now unbound_spec
  done (AddSpec added)
spec_update specs.SetDefault = do
  named ← field meta_key.SPEC_ID.now member
  done (SetDefaultSpec named)
spec_update specs.Remove = do
  ids ← field key.SPEC_IDS.now (list id)
  done (RemovePartitionSpecs ids)

unfoldable pub order_update : OrderAction → Shape Update
order_update orders.Add = do
  added ← field key.SORT_ORDER.now unbound_order
  done (AddSortOrder added)
order_update orders.SetDefault = do
  named ← field key.SORT_ORDER_ID.now member
  done (SetDefaultSortOrder named)

-- a reference stands beside its name
unfoldable pub snapshot_update : SnapshotAction → Shape Update
snapshot_update snapshots.Add = do
  added ← field key.SNAPSHOT.now snapshot
  done (AddSnapshot added)
snapshot_update snapshots.SetRef = do
  named ← field key.REF_NAME.now text
  set ← reference
  done (SetSnapshotRef named set)
snapshot_update snapshots.Remove = do
  ids ← field key.SNAPSHOT_IDS.now (list long)
  done (RemoveSnapshots ids)
snapshot_update snapshots.RemoveRef = do
  named ← field key.REF_NAME.now text
  done (RemoveSnapshotRef named)

unfoldable pub text_update : TextAction → Shape Update
text_update texts.AssignUuid = do
  named ← field key.UUID.now uuid
  done (AssignUuid named)
text_update texts.UpgradeFormatVersion = do
  version ← field meta_key.FORMAT_VERSION.now id
  done (UpgradeFormatVersion version)
text_update texts.SetLocation = do
  placed ← field meta_key.LOCATION.now text
  done (SetLocation placed)
text_update texts.SetProperties = do
  pairs ← field key.UPDATES.now text_map
  done (SetProperties pairs)
text_update texts.RemoveProperties = do
  removed ← field key.REMOVALS.now (list text)
  done (RemoveProperties removed)

-- the update of an action
unfoldable pub update_of : Action → Shape Update
update_of (Schemas which) = schema_update which
update_of (Specs which) = spec_update which
update_of (Orders which) = order_update which
update_of (Snapshots which) = snapshot_update which
update_of (Texts which) = text_update which
update_of (LeftOut which) = done (Unsupported which)

unfoldable pub update : Shape Update
update = do
  _ ← an_object
  which ← field key.ACTION.now action
  update_of which
