-- What `==` tells of the values of a view's metadata: only equal ones compare as equal, since each field is compared
-- exactly.
use Rattle.std.specs.Prelude.{◌≡◌, true}
use Rattle.pol_types.specs.Exact.{pointwise_exact}
use Rattle.pol_properties.specs.Properties.{same_pair_exact}
use Rattle.pol_meta.specs.Exactness.{both, numbers_exact, options_exact, schemas_exact, texts_exact}
use Rattle.pol_views.specs.declared.version.Representation.{Representation}
use Rattle.pol_views.specs.contracts.version.RepresentationPartialEq.TheImpl as representations_compared
use Rattle.pol_views.specs.declared.version.ViewVersion.{ViewVersion}
use Rattle.pol_views.specs.contracts.version.ViewVersionPartialEq.TheImpl as view_versions_compared
use Rattle.pol_views.specs.declared.log.VersionLogEntry.{VersionLogEntry}
use Rattle.pol_views.specs.contracts.log.VersionLogEntryPartialEq.TheImpl as version_log_entries_compared
use Rattle.pol_views.specs.declared.metadata.ViewMetadata.{ViewMetadata}
use Rattle.pol_views.specs.contracts.metadata.ViewMetadataPartialEq.TheImpl as view_metadata_compared

pub representations_exact : (left right : Representation)
    → (representations_compared.ghosts).eq left right ≡ true → left ≡ right
representations_exact left right same =
    let told =
    both (texts_exact left.sql right.sql)
    (texts_exact left.dialect right.dialect) same
    in
    λ i. record {
      sql = told.0 i;
      dialect = told.1 i;
    }

pub view_versions_exact : (left right : ViewVersion)
    → (view_versions_compared.ghosts).eq left right ≡ true → left ≡ right
view_versions_exact left right same =
    let told =
    both (numbers_exact left.version_id right.version_id)
    (both (numbers_exact left.timestamp_ms right.timestamp_ms)
    (both (numbers_exact left.schema_id right.schema_id)
    (both (pointwise_exact same_pair_exact left.summary right.summary)
    (both (pointwise_exact representations_exact left.representations right.representations)
    (both (options_exact texts_exact left.default_catalog right.default_catalog)
    (pointwise_exact texts_exact left.default_namespace right.default_namespace)))))) same
    in
    λ i. record {
      version_id = told.0 i;
      timestamp_ms = told.1.0 i;
      schema_id = told.1.1.0 i;
      summary = told.1.1.1.0 i;
      representations = told.1.1.1.1.0 i;
      default_catalog = told.1.1.1.1.1.0 i;
      default_namespace = told.1.1.1.1.1.1 i;
    }

pub version_log_entries_exact : (left right : VersionLogEntry)
    → (version_log_entries_compared.ghosts).eq left right ≡ true → left ≡ right
version_log_entries_exact left right same =
    let told =
    both (numbers_exact left.timestamp_ms right.timestamp_ms)
    (numbers_exact left.version_id right.version_id) same
    in
    λ i. record {
      timestamp_ms = told.0 i;
      version_id = told.1 i;
    }

pub view_metadata_exact : (left right : ViewMetadata)
    → (view_metadata_compared.ghosts).eq left right ≡ true → left ≡ right
view_metadata_exact left right same =
    let told =
    both (numbers_exact left.current_version_id right.current_version_id)
    (both (numbers_exact left.format_version right.format_version)
    (both (texts_exact left.location right.location)
    (both (pointwise_exact same_pair_exact left.properties right.properties)
    (both (pointwise_exact schemas_exact left.schemas right.schemas)
    (both (pointwise_exact version_log_entries_exact left.version_log right.version_log)
    (both (pointwise_exact view_versions_exact left.versions right.versions)
    (texts_exact left.view_uuid right.view_uuid))))))) same
    in
    λ i. record {
      current_version_id = told.0 i;
      format_version = told.1.0 i;
      location = told.1.1.0 i;
      properties = told.1.1.1.0 i;
      schemas = told.1.1.1.1.0 i;
      version_log = told.1.1.1.1.1.0 i;
      versions = told.1.1.1.1.1.1.0 i;
      view_uuid = told.1.1.1.1.1.1.1 i;
    }
