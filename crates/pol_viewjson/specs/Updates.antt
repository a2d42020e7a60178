-- Updates of views (Iceberg REST OpenAPI, ViewUpdate).
use Rattle.pol_commitjson.specs.Members.{member}
use Rattle.pol_commitjson.specs.declared.action.TextAction.{TextAction}
use Rattle.pol_commitjson.specs.declared.action.TextAction.TheVariants as texts
use Rattle.pol_commitjson.specs.declared.keys.TheConstants as commit_key
use Rattle.pol_metajson.specs.Ids.{id}
use Rattle.pol_metajson.specs.Schema.{schema}
use Rattle.pol_metajson.specs.Table.{text_map}
use Rattle.pol_metakeys.specs.declared.keys.TheConstants as meta_key
use Rattle.pol_metaread.specs.Metadata.{uuid}
use Rattle.pol_readers.specs.Shape.{Shape, ◌>>=◌, an_object, done, field, list, text}
use Rattle.pol_views.specs.declared.update.ViewUpdate.{ViewUpdate}
use Rattle.pol_views.specs.declared.update.ViewUpdate.TheVariants.{AssignUuid, UpgradeFormatVersion, AddSchema, SetLocation, SetProperties, RemoveProperties, AddViewVersion, SetCurrentViewVersion, Unsupported}
use Rattle.pol_viewjson.specs.Actions.{action}
use Rattle.pol_viewjson.specs.Versions.{unbound_version}
use Rattle.pol_viewjson.specs.declared.action.VersionAction.{VersionAction}
use Rattle.pol_viewjson.specs.declared.action.VersionAction.TheVariants as versions
use Rattle.pol_viewjson.specs.declared.action.ViewAction.{ViewAction}
use Rattle.pol_viewjson.specs.declared.action.ViewAction.TheVariants.{Versions, Texts, LeftOut}
use Rattle.pol_viewjson.specs.declared.keys.TheConstants as key

unfoldable pub version_update : VersionAction → Shape ViewUpdate
version_update versions.AddSchema = do
  added ← field meta_key.SCHEMA.now schema
  done (AddSchema added)
version_update versions.AddViewVersion = do
  added ← field key.VIEW_VERSION.now unbound_version
  done (AddViewVersion added)
version_update versions.SetCurrentViewVersion = do
  named ← field key.VIEW_VERSION_ID.now member
  done (SetCurrentViewVersion named)

unfoldable pub text_update : TextAction → Shape ViewUpdate
text_update texts.AssignUuid = do
  named ← field commit_key.UUID.now uuid
  done (AssignUuid named)
text_update texts.UpgradeFormatVersion = do
  version ← field meta_key.FORMAT_VERSION.now id
  done (UpgradeFormatVersion version)
text_update texts.SetLocation = do
  placed ← field meta_key.LOCATION.now text
  done (SetLocation placed)
text_update texts.SetProperties = do
  pairs ← field commit_key.UPDATES.now text_map
  done (SetProperties pairs)
text_update texts.RemoveProperties = do
  removed ← field commit_key.REMOVALS.now (list text)
  done (RemoveProperties removed)

-- the update of an action
unfoldable pub update_of : ViewAction → Shape ViewUpdate
update_of (Versions which) = version_update which
update_of (Texts which) = text_update which
update_of (LeftOut which) = done (Unsupported which)

unfoldable pub update : Shape ViewUpdate
update = do
  _ ← an_object
  which ← field commit_key.ACTION.now action
  update_of which
