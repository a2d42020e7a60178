-- Versions of views (Iceberg view spec, Versions, SQL representation and Version Log).
use Rattle.pol_commitjson.specs.Identifiers.{levels}
use Rattle.pol_commitjson.specs.Members.{member}
use Rattle.pol_metajson.specs.Ids.{id}
use Rattle.pol_metajson.specs.Table.{text_map}
use Rattle.pol_metakeys.specs.declared.keys.TheConstants as meta_key
use Rattle.pol_metaread.specs.Ids.{long}
use Rattle.pol_readers.specs.Shape.{Shape, ◌>>=◌, an_object, done, field, fixed, list, optional, text}
use Rattle.pol_views.specs.declared.log.VersionLogEntry.{VersionLogEntry}
use Rattle.pol_views.specs.declared.version.Representation.{Representation}
use Rattle.pol_views.specs.declared.version.UnboundVersion.{UnboundVersion}
use Rattle.pol_views.specs.declared.version.ViewVersion.{ViewVersion}
use Rattle.pol_viewjson.specs.declared.keys.TheConstants as key
use Rattle.pol_viewjson.specs.declared.version.Told.{Told}

unfoldable pub representation : Shape Representation
representation = do
  _ ← an_object
  _ ← field meta_key.TYPE.now (fixed key.SQL.now)
  said ← field key.SQL.now text
  spoken ← field key.DIALECT.now text
  done (record { sql = said; dialect = spoken })

-- what a version tells beside its ids and its time
unfoldable pub told : Shape Told
told = do
  described ← field meta_key.SUMMARY.now text_map
  written ← field key.REPRESENTATIONS.now (list representation)
  catalog ← optional key.DEFAULT_CATALOG.now text
  within ← field key.DEFAULT_NAMESPACE.now levels
  done (record {
    summary = described;
    representations = written;
    default_catalog = catalog;
    default_namespace = within;
  })

unfoldable pub view_version : Shape ViewVersion
view_version = do
  _ ← an_object
  given ← field key.VERSION_ID.now id
  moment ← field meta_key.TIMESTAMP_MS.now long
  columns ← field meta_key.SCHEMA_ID.now id
  parts ← told
  done (record {
    version_id = given;
    timestamp_ms = moment;
    schema_id = columns;
    summary = parts.summary;
    representations = parts.representations;
    default_catalog = parts.default_catalog;
    default_namespace = parts.default_namespace;
  })

-- one that is asked for: an id that is given is read for its form alone, and -1 names the schema that was added last
unfoldable pub unbound_version : Shape UnboundVersion
unbound_version = do
  _ ← an_object
  _ ← field key.VERSION_ID.now id
  moment ← field meta_key.TIMESTAMP_MS.now long
  columns ← field meta_key.SCHEMA_ID.now member
  parts ← told
  done (record {
    timestamp_ms = moment;
    schema_id = columns;
    summary = parts.summary;
    representations = parts.representations;
    default_catalog = parts.default_catalog;
    default_namespace = parts.default_namespace;
  })

unfoldable pub version_log_entry : Shape VersionLogEntry
version_log_entry = do
  _ ← an_object
  moment ← field meta_key.TIMESTAMP_MS.now long
  named ← field key.VERSION_ID.now id
  done (record { timestamp_ms = moment; version_id = named })
