-- No printed metadata of a view has a float.
use Rattle.std.proofs.Common.{◌≡◌, ℕ, false, List}
use Rattle.serde_json.specs.Data.{Members, string}
use Rattle.serde_json.specs.Written.{has_float}
use Rattle.uuid.specs.Text.{hyphenated_text, lower}
use Rattle.pol_metakeys.specs.declared.keys.TheConstants as meta_key
use Rattle.pol_metaprint.proofs.WholeLemmas.{AreWhole, IsWhole, empty_whole, list_whole, number_whole, object_whole, pairs_whole, put_text_whole, put_whole, schema_whole, text_whole}
use Rattle.pol_metaprint.specs.Metadata.{schema_json}
use Rattle.pol_views.specs.declared.log.VersionLogEntry.{VersionLogEntry}
use Rattle.pol_views.specs.declared.metadata.ViewMetadata.{ViewMetadata}
use Rattle.pol_views.specs.declared.version.Representation.{Representation}
use Rattle.pol_views.specs.declared.version.ViewVersion.{ViewVersion}
use Rattle.pol_viewjson.specs.Json.{levels_json, put_versions, put_view, representation_json, version_log_entry_json, view_json, view_version_json}
use Rattle.pol_viewjson.specs.declared.keys.TheConstants as key

representation_whole : (representation : Representation) → IsWhole (representation_json representation)
unfolding representation_json
representation_whole representation =
    object_whole (put_whole meta_key.TYPE.now (text_whole key.SQL.now)
    (put_whole key.SQL.now (text_whole representation.sql)
    (put_whole key.DIALECT.now (text_whole representation.dialect) empty_whole)))

levels_whole : (levels : List (List ℕ)) → IsWhole (levels_json levels)
levels_whole levels = list_whole string text_whole levels

version_whole : (version : ViewVersion) → IsWhole (view_version_json version)
unfolding view_version_json
version_whole version =
    object_whole (put_whole key.VERSION_ID.now (number_whole version.version_id)
    (put_whole meta_key.TIMESTAMP_MS.now (number_whole version.timestamp_ms)
    (put_whole meta_key.SUMMARY.now (pairs_whole version.summary)
    (put_whole meta_key.SCHEMA_ID.now (number_whole version.schema_id)
    (put_whole key.REPRESENTATIONS.now (list_whole representation_json representation_whole version.representations)
    (put_whole key.DEFAULT_NAMESPACE.now (levels_whole version.default_namespace)
    (put_text_whole key.DEFAULT_CATALOG.now version.default_catalog empty_whole)))))))

log_entry_whole : (entry : VersionLogEntry) → IsWhole (version_log_entry_json entry)
unfolding version_log_entry_json
log_entry_whole entry =
    object_whole (put_whole key.VERSION_ID.now (number_whole entry.version_id)
    (put_whole meta_key.TIMESTAMP_MS.now (number_whole entry.timestamp_ms) empty_whole))

view_put : (meta : ViewMetadata) {ms : Members} → AreWhole ms → AreWhole (put_view meta ms)
unfolding put_view
view_put meta whole =
    put_whole key.VIEW_UUID.now (text_whole (hyphenated_text lower meta.view_uuid))
    (put_whole meta_key.PROPERTIES.now (pairs_whole meta.properties)
    (put_whole meta_key.LOCATION.now (text_whole meta.location) whole))

versions_put : (meta : ViewMetadata) {ms : Members} → AreWhole ms → AreWhole (put_versions meta ms)
unfolding put_versions
versions_put meta whole =
    put_whole key.VERSIONS.now (list_whole view_version_json version_whole meta.versions)
    (put_whole key.VERSION_LOG.now (list_whole version_log_entry_json log_entry_whole meta.version_log)
    (put_whole meta_key.SCHEMAS.now (list_whole schema_json schema_whole meta.schemas)
    (put_whole meta_key.FORMAT_VERSION.now (number_whole meta.format_version)
    (put_whole key.CURRENT_VERSION_ID.now (number_whole meta.current_version_id) whole))))

view_is_whole : (meta : ViewMetadata) → IsWhole (view_json meta)
unfolding view_json
view_is_whole meta = object_whole (versions_put meta (view_put meta empty_whole))

pub view_whole : (meta : ViewMetadata) → has_float (view_json meta) ≡ false
view_whole meta = (view_is_whole meta).none
