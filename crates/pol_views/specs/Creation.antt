-- How the metadata of a new view is made: the ids that its parts get.
use Rattle.std.specs.Prelude.{ℕ, List, [], ◌∷◌}
use Rattle.pol_properties.specs.declared.property.Property.{Property}
use Rattle.pol_meta.specs.Creation.{first_schema}
use Rattle.pol_meta.specs.Valid.{IsLong, IsSchema}
use Rattle.pol_meta.specs.declared.schema.Schema.{Schema}
use Rattle.pol_views.specs.Versions.{bound_version}
use Rattle.pol_views.specs.declared.metadata.ViewMetadata.{ViewMetadata}
use Rattle.pol_views.specs.declared.version.UnboundVersion.{UnboundVersion}
use Rattle.pol_views.specs.declared.version.ViewVersion.{ViewVersion}

-- the one version of a new view, with its one schema
abbrev pub first_version : UnboundVersion → ViewVersion
first_version version = bound_version 1 0 version

-- the metadata of a view that has this one schema and version, which became the current one when the view was made
abbrev pub assembled_view : List ℕ → List ℕ → Schema → ViewVersion → List Property → ℕ → ViewMetadata
assembled_view uuid location schema version properties moment = record {
  current_version_id = version.version_id;
  format_version = 1;
  location = location;
  properties = properties;
  schemas = first_schema schema ∷ [];
  version_log = record { timestamp_ms = moment; version_id = version.version_id } ∷ [];
  versions = version ∷ [];
  view_uuid = uuid;
}

-- the metadata of a new view
unfoldable pub created_view : List ℕ → List ℕ → Schema → UnboundVersion → List Property → ℕ → ViewMetadata
created_view uuid location schema version properties moment =
    assembled_view uuid location schema (first_version version) properties moment

-- what a view is asked for with has the forms of its parts
pub record IsViewAskedFor (schema : Schema) (version : UnboundVersion) (moment : ℕ) : Type 0 where
  pub schema_form : IsSchema schema
  pub version_time : IsLong version.timestamp_ms
  pub time : IsLong moment
