-- The words for updates of views (Iceberg REST OpenAPI, ViewUpdate).
use Rattle.std.specs.Prelude.{ℕ, List, [], ◌∷◌}
use Rattle.pol_commitjson.specs.declared.action.TextAction.TheVariants as texts
use Rattle.pol_commitjson.specs.declared.keys.TheConstants as commit_key
use Rattle.pol_readers.specs.Shape.{Shape, one_of}
use Rattle.pol_updates.specs.declared.update.LeftOut.TheVariants as left
use Rattle.pol_viewjson.specs.declared.action.VersionAction.TheVariants as versions
use Rattle.pol_viewjson.specs.declared.action.ViewAction.{ViewAction}
use Rattle.pol_viewjson.specs.declared.action.ViewAction.TheVariants.{Versions, Texts, LeftOut}
use Rattle.pol_viewjson.specs.declared.keys.TheConstants as key

abbrev pub action_words : List (List ℕ × ViewAction)
action_words =
    (commit_key.ASSIGN_UUID.now, Texts texts.AssignUuid)
    ∷ (commit_key.UPGRADE_FORMAT_VERSION.now, Texts texts.UpgradeFormatVersion)
    ∷ (commit_key.ADD_SCHEMA.now, Versions versions.AddSchema)
    ∷ (commit_key.SET_LOCATION.now, Texts texts.SetLocation)
    ∷ (commit_key.SET_PROPERTIES.now, Texts texts.SetProperties)
    ∷ (commit_key.REMOVE_PROPERTIES.now, Texts texts.RemoveProperties)
    ∷ (key.ADD_VIEW_VERSION.now, Versions versions.AddViewVersion)
    ∷ (key.SET_CURRENT_VIEW_VERSION.now, Versions versions.SetCurrentViewVersion)
    ∷ (commit_key.SET_STATISTICS.now, LeftOut left.SetStatistics)
    ∷ (commit_key.REMOVE_STATISTICS.now, LeftOut left.RemoveStatistics)
    ∷ (commit_key.SET_PARTITION_STATISTICS.now, LeftOut left.SetPartitionStatistics)
    ∷ (commit_key.REMOVE_PARTITION_STATISTICS.now, LeftOut left.RemovePartitionStatistics)
    ∷ (commit_key.ADD_ENCRYPTION_KEY.now, LeftOut left.AddEncryptionKey)
    ∷ (commit_key.REMOVE_ENCRYPTION_KEY.now, LeftOut left.RemoveEncryptionKey) ∷ []

unfoldable pub action : Shape ViewAction
action = one_of action_words
