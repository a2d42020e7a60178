-- Snapshots, references to them, and both logs (Iceberg table spec, Snapshots, Snapshot References and Table Metadata).
use Rattle.std.specs.Prelude.{ℕ, List, [], ◌∷◌, map}
use Rattle.pol_readers.specs.Shape.{Shape, ◌>>=◌, an_object, done, entries, field, one_of, optional, text}
use Rattle.pol_meta.specs.declared.log.MetadataLogEntry.{MetadataLogEntry}
use Rattle.pol_meta.specs.declared.log.SnapshotLogEntry.{SnapshotLogEntry}
use Rattle.pol_meta.specs.declared.reference.NamedRef.{NamedRef}
use Rattle.pol_meta.specs.declared.reference.RefKind.{RefKind}
use Rattle.pol_meta.specs.declared.reference.RefKind.TheVariants.{Branch, Tag}
use Rattle.pol_meta.specs.declared.reference.SnapshotRef.{SnapshotRef}
use Rattle.pol_meta.specs.declared.snapshot.Snapshot.{Snapshot}
use Rattle.pol_metajson.specs.Ids.{id}
use Rattle.pol_metajson.specs.Table.{text_map}
use Rattle.pol_metakeys.specs.declared.keys.TheConstants as key
use Rattle.pol_metaread.specs.Ids.{kept, long}
use Rattle.pol_metaread.specs.declared.snapshot.Made.{Made}
use Rattle.pol_metaread.specs.declared.snapshot.Operation.{Operation}
use Rattle.pol_metaread.specs.declared.snapshot.Operation.TheVariants.{Append, Delete, Overwrite, Replace}

abbrev pub operations : List (List ℕ × Operation)
operations = (key.APPEND.now, Append) ∷ (key.REPLACE.now, Replace) ∷ (key.OVERWRITE.now, Overwrite) ∷ (key.DELETE.now, Delete) ∷ []

unfoldable pub operation : Shape Operation
operation = one_of operations

-- one of the texts about a snapshot says how it was made
unfoldable pub made : Shape Made
made = do
  found ← field key.OPERATION.now operation
  done (record { operation = found })

unfoldable pub snapshot : Shape Snapshot
snapshot = do
  _ ← an_object
  named ← field key.SNAPSHOT_ID.now long
  parent ← optional key.PARENT_SNAPSHOT_ID.now long
  sequence ← field key.SEQUENCE_NUMBER.now long
  moment ← field key.TIMESTAMP_MS.now long
  files ← field key.MANIFEST_LIST.now text
  described ← field key.SUMMARY.now text_map
  _ ← field key.SUMMARY.now made
  written ← optional key.SCHEMA_ID.now id
  done (record {
    snapshot_id = named;
    parent_snapshot_id = parent;
    sequence_number = sequence;
    timestamp_ms = moment;
    manifest_list = files;
    summary = described;
    schema_id = written;
  })

abbrev pub ref_kinds : List (List ℕ × RefKind)
ref_kinds = (key.BRANCH.now, Branch) ∷ (key.TAG.now, Tag) ∷ []

unfoldable pub ref_kind : Shape RefKind
ref_kind = one_of ref_kinds

unfoldable pub reference : Shape SnapshotRef
reference = do
  _ ← an_object
  kinded ← field key.TYPE.now ref_kind
  named ← field key.SNAPSHOT_ID.now long
  age ← optional key.MAX_REF_AGE_MS.now kept
  snapshot_age ← optional key.MAX_SNAPSHOT_AGE_MS.now kept
  count ← optional key.MIN_SNAPSHOTS_TO_KEEP.now kept
  done (record {
    kind = kinded;
    snapshot_id = named;
    max_ref_age_ms = age;
    max_snapshot_age_ms = snapshot_age;
    min_snapshots_to_keep = count;
  })

-- references under their names
abbrev pub named_of : List ℕ × SnapshotRef → NamedRef
named_of entry = record { name = entry.0; reference = entry.1 }

unfoldable pub refs : Shape (List NamedRef)
refs = do
  pairs ← entries reference
  done (map named_of pairs)

unfoldable pub metadata_log_entry : Shape MetadataLogEntry
metadata_log_entry = do
  _ ← an_object
  file ← field key.METADATA_FILE.now text
  moment ← field key.TIMESTAMP_MS.now long
  done (record { metadata_file = file; timestamp_ms = moment })

unfoldable pub snapshot_log_entry : Shape SnapshotLogEntry
snapshot_log_entry = do
  _ ← an_object
  named ← field key.SNAPSHOT_ID.now long
  moment ← field key.TIMESTAMP_MS.now long
  done (record { snapshot_id = named; timestamp_ms = moment })
