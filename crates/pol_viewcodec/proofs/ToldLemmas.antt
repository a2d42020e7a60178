-- A metadata of a view that has a form keeps the rules of the Iceberg view spec.
use Rattle.std.proofs.Common.{◌≡◌, ◌≤◌, ℕ, arith}
use Rattle.pol_meta.specs.Valid.{IsSchema}
use Rattle.pol_metacodec.proofs.ToldLemmas.{schema_told}
use Rattle.pol_metacodec.specs.Metadata.{schema}
use Rattle.pol_partcodec.proofs.ToldLemmas.{id_told, list_told, long_told}
use Rattle.pol_partcodec.specs.Numbers.{short_between}
use Rattle.pol_views.specs.Valid.{IsValidView, IsVersionLogEntry, IsViewVersion}
use Rattle.pol_views.specs.declared.log.VersionLogEntry.{VersionLogEntry}
use Rattle.pol_views.specs.declared.metadata.ViewMetadata.{ViewMetadata}
use Rattle.pol_views.specs.declared.version.ViewVersion.{ViewVersion}
use Rattle.pol_viewcodec.specs.Views.{heads, members, version_log_entry, view, view_fields, view_format, view_version}

version_log_entry_told : (entry : VersionLogEntry) → version_log_entry.holds entry → IsVersionLogEntry entry
unfolding version_log_entry
version_log_entry_told entry held = record {
  time = long_told entry.timestamp_ms held.0;
  version = id_told entry.version_id held.1;
}

view_version_told : (one : ViewVersion) → view_version.holds one → IsViewVersion one
unfolding view_version
view_version_told one held = record {
  id = id_told one.version_id held.0;
  time = long_told one.timestamp_ms held.1.0;
  schema = id_told one.schema_id held.1.1.0;
}

first_told : (n : ℕ) → view_format.holds n → n ≡ 1
unfolding short_between
first_told n held =
    let above : 1 ≤ n = held.1.above in
    let below : n ≤ 1 = held.1.below in
    omega (arith, above, below)

pub view_told : (meta : ViewMetadata) → view.holds meta → IsValidView meta
unfolding view view_fields heads members
view_told meta held =
    let first = held.0.0 in
    let second = held.0.1 in record {
      forms = record {
        current = id_told meta.current_version_id first.0;
        version = first_told meta.format_version first.1.0;
        schemas = list_told schema IsSchema schema_told meta.schemas second.0;
        log = list_told version_log_entry IsVersionLogEntry version_log_entry_told meta.version_log second.1.0;
        versions = list_told view_version IsViewVersion view_version_told meta.versions second.1.1.0;
      };
      ids = held.1.ids;
      members = held.1.members;
    }
