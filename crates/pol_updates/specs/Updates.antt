-- The metadata of a table after a list of updates (Iceberg REST OpenAPI, TableUpdate): each update is applied in turn,
-- and then what is done after the whole of a list.
use Rattle.std.specs.Prelude.{◌≡◌, ◌+◌, ◌-◌, ◌==◌, ◌++◌, ◌∷◌, [], ℕ, Bool, drop, length, min, List, Option, None, Some, Result, Ok, Err, if◌then◌else◌}
use Rattle.std.specs.Bool.{⊤}
use Rattle.std.specs.List.{suffix_len}
use Rattle.pol_locations.specs.Location.{location_text, parse_refusal, segments_of}
use Rattle.pol_locations.specs.declared.refused.LocationRefused.{LocationRefused}
use Rattle.pol_meta.specs.FileNames.{metadata_file}
use Rattle.pol_meta.specs.declared.log.MetadataLogEntry.{MetadataLogEntry}
use Rattle.pol_meta.specs.declared.log.SnapshotLogEntry.{SnapshotLogEntry}
use Rattle.pol_meta.specs.declared.metadata.TableMetadata.{TableMetadata}
use Rattle.pol_meta.specs.declared.snapshot.Snapshot.{Snapshot}
use Rattle.pol_meta.specs.declared.why.Why.{Why}
use Rattle.pol_drafts.specs.Drafts.{begun}
use Rattle.pol_drafts.specs.Orders.{add_order, set_default_order}
use Rattle.pol_drafts.specs.Partitions.{add_spec, remove_specs, set_default_spec}
use Rattle.pol_drafts.specs.Schemas.{add_schema, remove_schemas, set_current_schema}
use Rattle.pol_updates.specs.Snapshots.{add_snapshot, has_snapshot, set_snapshot_ref, without_ref, without_snapshots}
use Rattle.pol_updates.specs.Texts.{assign_uuid, upgrade_format_version, with_location, with_values, without_keys}
use Rattle.pol_drafts.specs.declared.draft.Draft.{Draft}
use Rattle.pol_updates.specs.declared.refused.ApplyRefused.{ApplyRefused}
use Rattle.pol_updates.specs.declared.refused.ApplyRefused.TheVariants.{Refused, OutOfMemory}
use Rattle.pol_drafts.specs.declared.stop.Stop.{Stop}
use Rattle.pol_drafts.specs.declared.stop.Stop.TheVariants as stop
use Rattle.pol_updates.specs.declared.update.Update.{Update}
use Rattle.pol_updates.specs.declared.update.Update.TheVariants.{AssignUuid, UpgradeFormatVersion, AddSchema, SetCurrentSchema, AddSpec, SetDefaultSpec, AddSortOrder, SetDefaultSortOrder, AddSnapshot, SetSnapshotRef, RemoveSnapshots, RemoveSnapshotRef, SetLocation, SetProperties, RemoveProperties, RemovePartitionSpecs, RemoveSchemas, Unsupported}

-- one update of a draft at a moment: the draft after it, or its first reason
abbrev pub after_one : ℕ → Update → Draft → Result Draft Why
after_one moment (AssignUuid uuid) d = assign_uuid uuid d
after_one moment (UpgradeFormatVersion version) d = upgrade_format_version version d
after_one moment (AddSchema schema) d = add_schema schema d
after_one moment (SetCurrentSchema member) d = set_current_schema member d
after_one moment (AddSpec spec) d = add_spec spec d
after_one moment (SetDefaultSpec member) d = set_default_spec member d
after_one moment (AddSortOrder order) d = add_order order d
after_one moment (SetDefaultSortOrder member) d = set_default_order member d
after_one moment (AddSnapshot snapshot) d = add_snapshot snapshot d
after_one moment (SetSnapshotRef name reference) d = set_snapshot_ref moment name reference d
after_one moment (RemoveSnapshots ids) d = Ok (without_snapshots ids d)
after_one moment (RemoveSnapshotRef name) d = Ok (without_ref name d)
after_one moment (SetLocation location) d = Ok (with_location location d)
after_one moment (SetProperties updates) d = Ok (with_values updates d)
after_one moment (RemoveProperties removals) d = Ok (without_keys removals d)
after_one moment (RemovePartitionSpecs ids) d = remove_specs ids d
after_one moment (RemoveSchemas ids) d = remove_schemas ids d
after_one moment (Unsupported action) d = Ok d

-- an update that is refused: its place in the list, and why
pub record Place : Type 0 where
  pub index : ℕ
  pub why : Why

-- the place of an update in its list is told with its reason
abbrev pub at_place : {D : Type 0} → ℕ → Result D Why → (D → Result D Place) → Result D Place
at_place index (Ok next) after = after next
at_place index (Err why) after = Err (record { index = index; why = why })

-- updates one after another, where a rule says what one makes of a draft; the first of them stands at this place of the
-- list, and the first that is refused ends it
unfoldable pub in_turn : {U D : Type 0} → (U → D → Result D Why) → ℕ → List U → D → Result D Place
in_turn step index [] d = Ok d
in_turn step index (update ∷ updates) d =
    at_place index (step update d) (λ next. in_turn step (index + 1) updates next)

-- the updates of a table so, at a moment
unfoldable pub after_each : ℕ → ℕ → List Update → Draft → Result Draft Place
after_each moment index updates d = in_turn (after_one moment) index updates d

-- what may be answered in place of a result
abbrev pub IsRefusal : {A : Type 0} → Result A Place → ApplyRefused → Type 0
IsRefusal made OutOfMemory = ⊤
IsRefusal made (Refused index why) = made ≡ Err (record { index = index; why = why })

-- the refusal of an update at a place
abbrev pub refused_at : ℕ → Stop → ApplyRefused
refused_at index (stop.Refused why) = Refused index why
refused_at index stop.OutOfMemory = OutOfMemory

-- the last so many items, or all where there are fewer
abbrev pub last_items : {A : Type 0} → ℕ → List A → List A
last_items count items = drop (length items - count) items

-- the metadata log with where the former metadata stands: its last 100 entries
abbrev pub logged : TableMetadata → ℕ → List MetadataLogEntry → List MetadataLogEntry
logged former version log = last_items 100 (log ++ record {
  metadata_file = metadata_file former.location version former.table_uuid;
  timestamp_ms = former.last_updated_ms;
} ∷ [])

-- whether the snapshot of an entry is there
abbrev pub is_there : List Snapshot → SnapshotLogEntry → Bool
is_there snapshots entry = has_snapshot snapshots entry.snapshot_id

-- the longest end of a snapshot log whose snapshots are all there, but its last 10,000 entries at most
abbrev pub log_left : List Snapshot → List SnapshotLogEntry → List SnapshotLogEntry
log_left snapshots log =
    last_items (min 10000 (suffix_len (is_there snapshots) log)) log

-- the text of a location as it is printed; a text that is no location stays
abbrev pub settled_by : Option LocationRefused → List ℕ → List ℕ
settled_by None text = location_text (segments_of text)
settled_by (Some why) text = text

abbrev pub settled : List ℕ → List ℕ
settled text = settled_by (parse_refusal text) text

-- what is done after the whole of a list, where the former metadata is that of this version
unfoldable pub finished : TableMetadata → ℕ → ℕ → TableMetadata → TableMetadata
finished former version moment meta = record meta {
  last_updated_ms = moment;
  location = settled meta.location;
  metadata_log = logged former version meta.metadata_log;
  snapshot_log = log_left meta.snapshots meta.snapshot_log;
}

-- what is made of the draft after a list
abbrev pub finished_of : {D M : Type 0} → (D → M) → Result D Place → Result M Place
finished_of finish (Ok d) = Ok (finish d)
finished_of finish (Err place) = Err place

-- what is made of a list of updates that leads to this: an empty list changes nothing, and after the whole of any other
-- its draft is finished
abbrev pub made_of : {U D M : Type 0} → (D → M) → M → List U → Result D Place → Result M Place
made_of finish same updates outcome =
    if length updates == 0 then Ok same
    else finished_of finish outcome

-- the metadata after a list of updates
unfoldable pub metadata_after : TableMetadata → ℕ → List Update → ℕ → Result TableMetadata Place
metadata_after meta version updates moment =
    made_of (λ d. finished meta version moment d.meta) meta updates (after_each moment 0 updates (begun meta))
