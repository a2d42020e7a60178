-- What the JSON of a view holds (Iceberg view spec, Appendix A).
use Rattle.std.specs.Prelude.{ℕ, List}
use Rattle.uuid.specs.Text.{hyphenated_text, lower}
use Rattle.serde_json.specs.Data.{Data, Members, no_members, object, put, string}
use Rattle.pol_metakeys.specs.declared.keys.TheConstants as meta_key
use Rattle.pol_metaprint.specs.Columns.{put_text}
use Rattle.pol_metaprint.specs.Json.{list_json, number_json, pairs_json}
use Rattle.pol_metaprint.specs.Metadata.{schema_json}
use Rattle.pol_views.specs.declared.log.VersionLogEntry.{VersionLogEntry}
use Rattle.pol_views.specs.declared.metadata.ViewMetadata.{ViewMetadata}
use Rattle.pol_views.specs.declared.version.Representation.{Representation}
use Rattle.pol_views.specs.declared.version.ViewVersion.{ViewVersion}
use Rattle.pol_viewjson.specs.declared.keys.TheConstants as key

unfoldable pub representation_json : Representation → Data
representation_json representation =
    object (put meta_key.TYPE.now (string key.SQL.now)
    (put key.SQL.now (string representation.sql)
    (put key.DIALECT.now (string representation.dialect) no_members)))

-- the levels of a namespace
abbrev pub levels_json : List (List ℕ) → Data
levels_json levels = list_json string levels

unfoldable pub view_version_json : ViewVersion → Data
view_version_json version =
    object (put key.VERSION_ID.now (number_json version.version_id)
    (put meta_key.TIMESTAMP_MS.now (number_json version.timestamp_ms)
    (put meta_key.SUMMARY.now (pairs_json version.summary)
    (put meta_key.SCHEMA_ID.now (number_json version.schema_id)
    (put key.REPRESENTATIONS.now (list_json representation_json version.representations)
    (put key.DEFAULT_NAMESPACE.now (levels_json version.default_namespace)
    (put_text key.DEFAULT_CATALOG.now version.default_catalog no_members)))))))

unfoldable pub version_log_entry_json : VersionLogEntry → Data
version_log_entry_json entry =
    object (put key.VERSION_ID.now (number_json entry.version_id)
    (put meta_key.TIMESTAMP_MS.now (number_json entry.timestamp_ms) no_members))

-- the versions of a metadata, and what is told of them
unfoldable pub put_versions : ViewMetadata → Members → Members
put_versions meta members =
    put key.VERSIONS.now (list_json view_version_json meta.versions)
    (put key.VERSION_LOG.now (list_json version_log_entry_json meta.version_log)
    (put meta_key.SCHEMAS.now (list_json schema_json meta.schemas)
    (put meta_key.FORMAT_VERSION.now (number_json meta.format_version)
    (put key.CURRENT_VERSION_ID.now (number_json meta.current_version_id) members))))

-- what it is of
unfoldable pub put_view : ViewMetadata → Members → Members
put_view meta members =
    put key.VIEW_UUID.now (string (hyphenated_text lower meta.view_uuid))
    (put meta_key.PROPERTIES.now (pairs_json meta.properties)
    (put meta_key.LOCATION.now (string meta.location) members))

-- a metadata
unfoldable pub view_json : ViewMetadata → Data
view_json meta = object (put_versions meta (put_view meta no_members))
