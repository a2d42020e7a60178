-- Which metadata of views are valid: each part has a form of the Iceberg view spec, and what its ids name is there.
use Rattle.std.specs.Prelude.{◌≡◌, ℕ, List, map, All, Contains, nat_eq}
use Rattle.std.specs.List.{IsDistinct}
use Rattle.pol_meta.specs.Valid.{IsId, IsLong, IsSchema, schema_ids}
use Rattle.pol_views.specs.declared.log.VersionLogEntry.{VersionLogEntry}
use Rattle.pol_views.specs.declared.metadata.ViewMetadata.{ViewMetadata}
use Rattle.pol_views.specs.declared.version.ViewVersion.{ViewVersion}

pub record IsViewVersion (version : ViewVersion) : Type 0 where
  pub id : IsId version.version_id
  pub time : IsLong version.timestamp_ms
  pub schema : IsId version.schema_id

pub record IsVersionLogEntry (entry : VersionLogEntry) : Type 0 where
  pub time : IsLong entry.timestamp_ms
  pub version : IsId entry.version_id

abbrev pub version_ids : List ViewVersion → List ℕ
version_ids versions = map (λ version. version.version_id) versions

-- each part of a metadata has its form
pub record HasViewForms (meta : ViewMetadata) : Type 0 where
  pub current : IsId meta.current_version_id
  pub version : meta.format_version ≡ 1
  pub schemas : All IsSchema meta.schemas
  pub log : All IsVersionLogEntry meta.version_log
  pub versions : All IsViewVersion meta.versions

-- the members of each kind have ids of their own
pub record HasOwnViewIds (meta : ViewMetadata) : Type 0 where
  pub schemas : IsDistinct nat_eq (schema_ids meta.schemas)
  pub versions : IsDistinct nat_eq (version_ids meta.versions)

-- what is named is there: the current version, and the schema of each version
pub record NamesViewMembers (meta : ViewMetadata) : Type 0 where
  pub current : Contains (version_ids meta.versions) meta.current_version_id
  pub schemas : All (λ version. Contains (schema_ids meta.schemas) version.schema_id) meta.versions

pub record IsValidView (meta : ViewMetadata) : Type 0 where
  pub forms : HasViewForms meta
  pub ids : HasOwnViewIds meta
  pub members : NamesViewMembers meta
