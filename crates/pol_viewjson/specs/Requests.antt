-- Bodies that create views and commit to them (Iceberg REST OpenAPI, CreateViewRequest, ViewRequirement and
-- CommitViewRequest).
use Rattle.std.specs.Prelude.{ℕ, [], unwrap_or}
use Rattle.pol_commitjson.specs.declared.keys.TheConstants as commit_key
use Rattle.pol_meta.specs.Valid.{IsLong}
use Rattle.pol_metajson.specs.Schema.{schema}
use Rattle.pol_metajson.specs.Table.{table_name, text_map}
use Rattle.pol_metakeys.specs.declared.keys.TheConstants as meta_key
use Rattle.pol_metaread.specs.Metadata.{uuid}
use Rattle.pol_readers.specs.Shape.{Shape, ◌>>=◌, an_object, done, field, fixed, list, optional, text}
use Rattle.pol_views.specs.Creation.{IsViewAskedFor}
use Rattle.pol_views.specs.declared.request.CreateView.{CreateView}
use Rattle.pol_views.specs.declared.request.ViewCommit.{ViewCommit}
use Rattle.pol_views.specs.declared.requirement.ViewRequirement.{ViewRequirement}
use Rattle.pol_views.specs.declared.requirement.ViewRequirement.TheVariants.{AssertViewUuid}
use Rattle.pol_viewjson.specs.Updates.{update}
use Rattle.pol_viewjson.specs.Versions.{unbound_version}
use Rattle.pol_viewjson.specs.declared.keys.TheConstants as key

unfoldable pub create_view : Shape CreateView
create_view = do
  _ ← an_object
  named ← field meta_key.NAME.now table_name
  placed ← optional meta_key.LOCATION.now text
  columns ← field meta_key.SCHEMA.now schema
  version ← field key.VIEW_VERSION.now unbound_version
  described ← field meta_key.PROPERTIES.now text_map
  done (record {
    name = named;
    location = placed;
    schema = columns;
    view_version = version;
    properties = described;
  })

-- a request with the forms that the metadata of a new view asks for, at any moment
abbrev pub IsFormed : CreateView → Type 0
IsFormed request = (moment : ℕ) → IsLong moment → IsViewAskedFor request.schema request.view_version moment

-- the one requirement that a view may have
unfoldable pub requirement : Shape ViewRequirement
requirement = do
  _ ← an_object
  _ ← field meta_key.TYPE.now (fixed key.ASSERT_VIEW_UUID.now)
  named ← field commit_key.UUID.now uuid
  done (AssertViewUuid named)

unfoldable pub view_commit : Shape ViewCommit
view_commit = do
  _ ← an_object
  required ← optional commit_key.REQUIREMENTS.now (list requirement)
  changed ← field commit_key.UPDATES.now (list update)
  done (record { requirements = unwrap_or required []; updates = changed })
