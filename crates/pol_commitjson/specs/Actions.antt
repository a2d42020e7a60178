-- The words for updates (Iceberg REST OpenAPI, TableUpdate).
use Rattle.std.specs.Prelude.{ℕ, List, [], ◌∷◌}
use Rattle.pol_commitjson.specs.declared.action.Action.{Action}
use Rattle.pol_commitjson.specs.declared.action.Action.TheVariants.{Schemas, Specs, Orders, Snapshots, Texts, LeftOut}
use Rattle.pol_commitjson.specs.declared.action.OrderAction.TheVariants as order
use Rattle.pol_commitjson.specs.declared.action.SchemaAction.TheVariants as schema
use Rattle.pol_commitjson.specs.declared.action.SnapshotAction.TheVariants as snapshot
use Rattle.pol_commitjson.specs.declared.action.SpecAction.TheVariants as spec
use Rattle.pol_commitjson.specs.declared.action.TextAction.TheVariants as texts
use Rattle.pol_commitjson.specs.declared.keys.TheConstants as key
use Rattle.pol_readers.specs.Shape.{Shape, one_of}
use Rattle.pol_updates.specs.declared.update.LeftOut.TheVariants as left

abbrev pub action_words : List (List ℕ × Action)
action_words =
    (key.ASSIGN_UUID.now, Texts texts.AssignUuid) ∷ (key.UPGRADE_FORMAT_VERSION.now, Texts texts.UpgradeFormatVersion)
    ∷ (key.ADD_SCHEMA.now, Schemas schema.Add) ∷ (key.SET_CURRENT_SCHEMA.now, Schemas schema.SetCurrent)
    ∷ (key.ADD_SPEC.now, Specs spec.Add) ∷ (key.SET_DEFAULT_SPEC.now, Specs spec.SetDefault)
    ∷ (key.ADD_SORT_ORDER.now, Orders order.Add) ∷ (key.SET_DEFAULT_SORT_ORDER.now, Orders order.SetDefault)
    ∷ (key.ADD_SNAPSHOT.now, Snapshots snapshot.Add) ∷ (key.SET_SNAPSHOT_REF.now, Snapshots snapshot.SetRef)
    ∷ (key.REMOVE_SNAPSHOTS.now, Snapshots snapshot.Remove) ∷ (key.REMOVE_SNAPSHOT_REF.now, Snapshots snapshot.RemoveRef)
    ∷ (key.SET_LOCATION.now, Texts texts.SetLocation) ∷ (key.SET_PROPERTIES.now, Texts texts.SetProperties)
    ∷ (key.REMOVE_PROPERTIES.now, Texts texts.RemoveProperties) ∷ (key.REMOVE_PARTITION_SPECS.now, Specs spec.Remove)
    ∷ (key.REMOVE_SCHEMAS.now, Schemas schema.Remove) ∷ (key.SET_STATISTICS.now, LeftOut left.SetStatistics)
    ∷ (key.REMOVE_STATISTICS.now, LeftOut left.RemoveStatistics)
    ∷ (key.SET_PARTITION_STATISTICS.now, LeftOut left.SetPartitionStatistics)
    ∷ (key.REMOVE_PARTITION_STATISTICS.now, LeftOut left.RemovePartitionStatistics)
    ∷ (key.ADD_ENCRYPTION_KEY.now, LeftOut left.AddEncryptionKey)
    ∷ (key.REMOVE_ENCRYPTION_KEY.now, LeftOut left.RemoveEncryptionKey) ∷ []

unfoldable pub action : Shape Action
action = one_of action_words
