-- What the JSON of a metadata's parts holds. Members of objects stand in byte order of their keys, wherever they are put.
use Rattle.std.specs.Prelude.{ℕ, List, map, Option, None, Some}
use Rattle.std.specs.List.{fold}
use Rattle.serde_json.specs.Data.{Data, Members, array, no_members, number, object, put, string, unsigned}
use Rattle.serde_json.specs.View.{items_of}
use Rattle.pol_properties.specs.declared.property.Property.{Property}
use Rattle.pol_meta.specs.declared.log.MetadataLogEntry.{MetadataLogEntry}
use Rattle.pol_meta.specs.declared.log.SnapshotLogEntry.{SnapshotLogEntry}
use Rattle.pol_meta.specs.declared.partition.PartitionField.{PartitionField}
use Rattle.pol_meta.specs.declared.partition.PartitionSpec.{PartitionSpec}
use Rattle.pol_meta.specs.declared.reference.NamedRef.{NamedRef}
use Rattle.pol_meta.specs.declared.reference.SnapshotRef.{SnapshotRef}
use Rattle.pol_meta.specs.declared.snapshot.Snapshot.{Snapshot}
use Rattle.pol_meta.specs.declared.sort.SortField.{SortField}
use Rattle.pol_meta.specs.declared.sort.SortOrder.{SortOrder}
use Rattle.pol_metakeys.specs.declared.keys.TheConstants.{DIRECTION, FIELD_ID, FIELDS, MANIFEST_LIST, MAX_REF_AGE_MS, MAX_SNAPSHOT_AGE_MS, METADATA_FILE, MIN_SNAPSHOTS_TO_KEEP, NAME, NULL_ORDER, ORDER_ID, PARENT_SNAPSHOT_ID, SCHEMA_ID, SEQUENCE_NUMBER, SNAPSHOT_ID, SOURCE_ID, SPEC_ID, SUMMARY, TIMESTAMP_MS, TRANSFORM, TYPE}
use Rattle.pol_metaprint.specs.Texts.{direction_text, null_order_text, ref_kind_text, transform_text}

abbrev pub number_json : ℕ → Data
number_json n = number (unsigned n)

-- a list
abbrev pub list_json : {A : Type 0} → (A → Data) → List A → Data
list_json json items = array (items_of (map json items))

-- one more member, if it is there
abbrev pub put_number : List ℕ → Option ℕ → Members → Members
put_number key None members = members
put_number key (Some n) members = put key (number_json n) members

-- an object of texts
abbrev pub put_pair : Members → Property → Members
put_pair members pair = put pair.key (string pair.value) members

unfoldable pub pairs_json : List Property → Data
pairs_json pairs = object (fold put_pair no_members pairs)

unfoldable pub sort_field_json : SortField → Data
sort_field_json field =
    object (put TRANSFORM.now (string (transform_text field.transform))
    (put SOURCE_ID.now (number_json field.source_id)
    (put NULL_ORDER.now (string (null_order_text field.null_order))
    (put DIRECTION.now (string (direction_text field.direction)) no_members))))

unfoldable pub sort_order_json : SortOrder → Data
sort_order_json order =
    object (put ORDER_ID.now (number_json order.order_id) (put FIELDS.now (list_json sort_field_json order.fields) no_members))

unfoldable pub partition_field_json : PartitionField → Data
partition_field_json field =
    object (put TRANSFORM.now (string (transform_text field.transform))
    (put SOURCE_ID.now (number_json field.source_id)
    (put NAME.now (string field.name)
    (put FIELD_ID.now (number_json field.field_id) no_members))))

unfoldable pub partition_spec_json : PartitionSpec → Data
partition_spec_json spec =
    object (put SPEC_ID.now (number_json spec.spec_id) (put FIELDS.now (list_json partition_field_json spec.fields) no_members))

unfoldable pub snapshot_json : Snapshot → Data
snapshot_json snapshot =
    object (put TIMESTAMP_MS.now (number_json snapshot.timestamp_ms)
    (put SUMMARY.now (pairs_json snapshot.summary)
    (put SNAPSHOT_ID.now (number_json snapshot.snapshot_id)
    (put SEQUENCE_NUMBER.now (number_json snapshot.sequence_number)
    (put_number SCHEMA_ID.now snapshot.schema_id
    (put_number PARENT_SNAPSHOT_ID.now snapshot.parent_snapshot_id
    (put MANIFEST_LIST.now (string snapshot.manifest_list) no_members)))))))

unfoldable pub reference_json : SnapshotRef → Data
reference_json reference =
    object (put TYPE.now (string (ref_kind_text reference.kind))
    (put SNAPSHOT_ID.now (number_json reference.snapshot_id)
    (put_number MIN_SNAPSHOTS_TO_KEEP.now reference.min_snapshots_to_keep
    (put_number MAX_SNAPSHOT_AGE_MS.now reference.max_snapshot_age_ms
    (put_number MAX_REF_AGE_MS.now reference.max_ref_age_ms no_members)))))

-- references under their names
abbrev pub put_ref : Members → NamedRef → Members
put_ref members named = put named.name (reference_json named.reference) members

unfoldable pub refs_json : List NamedRef → Data
refs_json refs = object (fold put_ref no_members refs)

unfoldable pub metadata_log_entry_json : MetadataLogEntry → Data
metadata_log_entry_json entry =
    object (put TIMESTAMP_MS.now (number_json entry.timestamp_ms) (put METADATA_FILE.now (string entry.metadata_file) no_members))

unfoldable pub snapshot_log_entry_json : SnapshotLogEntry → Data
snapshot_log_entry_json entry =
    object (put TIMESTAMP_MS.now (number_json entry.timestamp_ms) (put SNAPSHOT_ID.now (number_json entry.snapshot_id) no_members))
