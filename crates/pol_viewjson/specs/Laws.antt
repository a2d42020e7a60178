-- Laws of the JSON of views, and what is printed of a metadata is read as the same metadata.
use Rattle.std.specs.Prelude.{◌≡◌, All, Ok}
use Rattle.pol_metalaws.specs.Laws.{IsUuid}
use Rattle.pol_names.specs.Namespace.{IsNamespace}
use Rattle.pol_properties.specs.Properties.{KeysAscend}
use Rattle.pol_readers.specs.Forms as form
use Rattle.pol_readers.specs.Grammar.{Exact, IsBody}
use Rattle.pol_views.specs.Valid.{HasViewForms}
use Rattle.pol_views.specs.declared.metadata.ViewMetadata.{ViewMetadata}
use Rattle.pol_views.specs.declared.version.ViewVersion.{ViewVersion}
use Rattle.pol_viewjson.specs.Json.{view_json}
use Rattle.pol_viewjson.specs.Metadata.{view_metadata}
use Rattle.pol_viewjson.specs.Requests.{create_view, view_commit}

-- a body, or a metadata, is read exactly where the bytes are an object of JSON that is of the grammar
abbrev pub CreateViewsAreExact : Type 0
CreateViewsAreExact = Exact (form.body create_view.read) (IsBody create_view.stands)

abbrev pub ViewCommitsAreExact : Type 0
ViewCommitsAreExact = Exact (form.body view_commit.read) (IsBody view_commit.stands)

abbrev pub ViewsAreExact : Type 0
ViewsAreExact = Exact (form.body view_metadata.read) (IsBody view_metadata.stands)

-- what the types of a metadata's fields keep
pub record IsHeldVersion (version : ViewVersion) : Type 0 where
  pub summary : KeysAscend version.summary
  pub namespace : IsNamespace version.default_namespace

pub record IsHeldView (meta : ViewMetadata) : Type 0 where
  pub properties : KeysAscend meta.properties
  pub versions : All IsHeldVersion meta.versions
  pub uuid : IsUuid meta.view_uuid

-- a metadata whose parts have their forms is read of what is printed of it
abbrev pub PrintedIsRead : Type 0
PrintedIsRead = (meta : ViewMetadata) → HasViewForms meta → IsHeldView meta → view_metadata.read (view_json meta) ≡ Ok meta
