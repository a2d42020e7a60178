-- The metadata of a view after a list of updates (Iceberg REST OpenAPI, ViewUpdate): each update is applied in turn,
-- and then what is done after the whole of a list.
use Rattle.std.specs.Prelude.{ℕ, List, None, Result, Ok}
use Rattle.pol_meta.specs.declared.why.Why.{Why}
use Rattle.pol_updates.specs.Updates.{Place, in_turn, made_of, settled}
use Rattle.pol_views.specs.Left.{log_left, versions_left}
use Rattle.pol_views.specs.Schemas.{add_schema}
use Rattle.pol_views.specs.Texts.{assign_uuid, upgrade_format_version, with_location, with_values, without_keys}
use Rattle.pol_views.specs.Versions.{add_version, set_current_version}
use Rattle.pol_views.specs.declared.draft.ViewDraft.{ViewDraft}
use Rattle.pol_views.specs.declared.metadata.ViewMetadata.{ViewMetadata}
use Rattle.pol_views.specs.declared.update.ViewUpdate.{ViewUpdate}
use Rattle.pol_views.specs.declared.update.ViewUpdate.TheVariants.{AssignUuid, UpgradeFormatVersion, AddSchema, SetLocation, SetProperties, RemoveProperties, AddViewVersion, SetCurrentViewVersion, Unsupported}

-- a metadata before a list of updates, which has added nothing yet
abbrev pub begun : ViewMetadata → ViewDraft
begun meta = record { meta = meta; last_schema = None; last_version = None }

-- one update of a draft at a moment: the draft after it, or its first reason
abbrev pub after_one : ℕ → ViewUpdate → ViewDraft → Result ViewDraft Why
after_one moment (AssignUuid uuid) d = assign_uuid uuid d
after_one moment (UpgradeFormatVersion version) d = upgrade_format_version version d
after_one moment (AddSchema schema) d = add_schema schema d
after_one moment (SetLocation location) d = Ok (with_location location d)
after_one moment (SetProperties updates) d = Ok (with_values updates d)
after_one moment (RemoveProperties removals) d = Ok (without_keys removals d)
after_one moment (AddViewVersion version) d = add_version version d
after_one moment (SetCurrentViewVersion member) d = set_current_version moment member d
after_one moment (Unsupported action) d = Ok d

-- updates one after another at a moment, the first of them at this place of the list; the first that is refused ends it
unfoldable pub after_each : ℕ → ℕ → List ViewUpdate → ViewDraft → Result ViewDraft Place
after_each moment index updates d = in_turn (after_one moment) index updates d

-- what is done after the whole of a list
unfoldable pub finished : ViewMetadata → ViewMetadata
finished meta = record meta {
  location = settled meta.location;
  version_log = log_left (versions_left meta.current_version_id meta.versions) meta.version_log;
  versions = versions_left meta.current_version_id meta.versions;
}

-- the metadata after a list of updates
unfoldable pub view_after : ViewMetadata → List ViewUpdate → ℕ → Result ViewMetadata Place
view_after meta updates moment =
    made_of (λ d. finished d.meta) meta updates (after_each moment 0 updates (begun meta))
