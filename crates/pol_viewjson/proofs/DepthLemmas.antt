-- No printed metadata of a view nests deeper than JSON that is read may.
use Rattle.std.proofs.Common.{◌≤◌, ℕ, List, All, arith}
use Rattle.serde_json.specs.Data.{Members, depth, string}
use Rattle.uuid.specs.Text.{hyphenated_text, lower}
use Rattle.pol_meta.specs.Valid.{IsSchema}
use Rattle.pol_metakeys.specs.declared.keys.TheConstants as meta_key
use Rattle.pol_metaprint.proofs.DepthLemmas.{AreWithin, IsWithin, empty_within, list_of_within, list_within, number_within, object_within, pairs_within, put_text_within, put_within, raise, schema_within, text_within}
use Rattle.pol_metaprint.specs.Metadata.{schema_json}
use Rattle.pol_views.specs.Valid.{HasViewForms}
use Rattle.pol_views.specs.declared.log.VersionLogEntry.{VersionLogEntry}
use Rattle.pol_views.specs.declared.metadata.ViewMetadata.{ViewMetadata}
use Rattle.pol_views.specs.declared.version.Representation.{Representation}
use Rattle.pol_views.specs.declared.version.ViewVersion.{ViewVersion}
use Rattle.pol_viewjson.specs.Json.{levels_json, put_versions, put_view, representation_json, version_log_entry_json, view_json, view_version_json}
use Rattle.pol_viewjson.specs.declared.keys.TheConstants as key

representation_within : (representation : Representation) → IsWithin 1 (representation_json representation)
unfolding representation_json
representation_within representation =
    object_within 0 (put_within 0 meta_key.TYPE.now (text_within 0 key.SQL.now)
    (put_within 0 key.SQL.now (text_within 0 representation.sql)
    (put_within 0 key.DIALECT.now (text_within 0 representation.dialect) (empty_within 0))))

levels_within : (levels : List (List ℕ)) → IsWithin 1 (levels_json levels)
levels_within levels = list_within 0 string (text_within 0) levels

version_within : (version : ViewVersion) → IsWithin 3 (view_version_json version)
unfolding view_version_json
version_within version =
    object_within 2 (put_within 2 key.VERSION_ID.now (number_within 2 version.version_id)
    (put_within 2 meta_key.TIMESTAMP_MS.now (number_within 2 version.timestamp_ms)
    (put_within 2 meta_key.SUMMARY.now (raise 1 2 (omega arith) (pairs_within version.summary))
    (put_within 2 meta_key.SCHEMA_ID.now (number_within 2 version.schema_id)
    (put_within 2 key.REPRESENTATIONS.now (list_within 1 representation_json representation_within version.representations)
    (put_within 2 key.DEFAULT_NAMESPACE.now (raise 1 2 (omega arith) (levels_within version.default_namespace))
    (put_text_within 2 key.DEFAULT_CATALOG.now version.default_catalog (empty_within 2))))))))

log_entry_within : (entry : VersionLogEntry) → IsWithin 1 (version_log_entry_json entry)
unfolding version_log_entry_json
log_entry_within entry =
    object_within 0 (put_within 0 key.VERSION_ID.now (number_within 0 entry.version_id)
    (put_within 0 meta_key.TIMESTAMP_MS.now (number_within 0 entry.timestamp_ms) (empty_within 0)))

view_put : (meta : ViewMetadata) {ms : Members} → AreWithin 100 ms → AreWithin 100 (put_view meta ms)
unfolding put_view
view_put meta rest =
    put_within 100 key.VIEW_UUID.now (text_within 100 (hyphenated_text lower meta.view_uuid))
    (put_within 100 meta_key.PROPERTIES.now (raise 1 100 (omega arith) (pairs_within meta.properties))
    (put_within 100 meta_key.LOCATION.now (text_within 100 meta.location) rest))

versions_put : (meta : ViewMetadata) {ms : Members} → All IsSchema meta.schemas → AreWithin 100 ms
    → AreWithin 100 (put_versions meta ms)
unfolding put_versions
versions_put meta schemas rest =
    put_within 100 key.VERSIONS.now
    (raise 4 100 (omega arith) (list_within 3 view_version_json version_within meta.versions))
    (put_within 100 key.VERSION_LOG.now
    (raise 2 100 (omega arith) (list_within 1 version_log_entry_json log_entry_within meta.version_log))
    (put_within 100 meta_key.SCHEMAS.now (list_of_within 99 schema_json IsSchema schema_within meta.schemas schemas)
    (put_within 100 meta_key.FORMAT_VERSION.now (number_within 100 meta.format_version)
    (put_within 100 key.CURRENT_VERSION_ID.now (number_within 100 meta.current_version_id) rest))))

view_within : (meta : ViewMetadata) → All IsSchema meta.schemas → IsWithin 101 (view_json meta)
unfolding view_json
view_within meta schemas = object_within 100 (versions_put meta schemas (view_put meta (empty_within 100)))

pub view_nests : (meta : ViewMetadata) → HasViewForms meta → depth (view_json meta) ≤ 127
view_nests meta forms = omega (arith, (view_within meta forms.schemas).most)
