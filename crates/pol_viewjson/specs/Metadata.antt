-- The metadata of views, format version 1 (Iceberg view spec, View Metadata).
use Rattle.pol_metajson.specs.Ids.{id}
use Rattle.pol_metajson.specs.Table.{text_map}
use Rattle.pol_metakeys.specs.declared.keys.TheConstants as meta_key
use Rattle.pol_metaread.specs.Metadata.{uuid}
use Rattle.pol_metaread.specs.Numbered.{numbered_schema}
use Rattle.pol_readers.specs.Shape.{Shape, ◌>>=◌, an_object, done, field, list, text, whole_number}
use Rattle.pol_views.specs.declared.metadata.ViewMetadata.{ViewMetadata}
use Rattle.pol_viewjson.specs.Versions.{version_log_entry, view_version}
use Rattle.pol_viewjson.specs.declared.keys.TheConstants as key

-- a metadata: its fields are tested in byte order of their keys
unfoldable pub view_metadata : Shape ViewMetadata
view_metadata = do
  _ ← an_object
  shown ← field key.CURRENT_VERSION_ID.now id
  format ← field meta_key.FORMAT_VERSION.now (whole_number 1 1)
  placed ← field meta_key.LOCATION.now text
  pairs ← field meta_key.PROPERTIES.now text_map
  columns ← field meta_key.SCHEMAS.now (list numbered_schema)
  log ← field key.VERSION_LOG.now (list version_log_entry)
  held ← field key.VERSIONS.now (list view_version)
  named ← field key.VIEW_UUID.now uuid
  done (record {
    current_version_id = shown;
    format_version = format;
    location = placed;
    properties = pairs;
    schemas = columns;
    version_log = log;
    versions = held;
    view_uuid = named;
  })
