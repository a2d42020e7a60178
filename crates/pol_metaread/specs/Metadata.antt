-- The metadata of tables, format version 2 (Iceberg table spec, Table Metadata Fields).
use Rattle.std.specs.Prelude.{ℕ, List}
use Rattle.uuid.specs.Text.{parsed}
use Rattle.pol_readers.specs.Shape.{Shape, ◌>>=◌, an_object, done, field, list, optional, text, text_of}
use Rattle.pol_meta.specs.declared.metadata.TableMetadata.{TableMetadata}
use Rattle.pol_metajson.specs.Ids.{column_id, id}
use Rattle.pol_metaread.specs.Ids.{last_field_id, long, version}
use Rattle.pol_metaread.specs.Numbered.{numbered_schema, partition_spec, sort_order}
use Rattle.pol_metaread.specs.Snapshot.{metadata_log_entry, refs, snapshot, snapshot_log_entry}
use Rattle.pol_metajson.specs.Table.{text_map}
use Rattle.pol_metakeys.specs.declared.keys.TheConstants as key
use Rattle.pol_metaread.specs.declared.metadata.Current.{Current}
use Rattle.pol_metaread.specs.declared.metadata.Numbers.{Numbers}
use Rattle.pol_metaread.specs.declared.metadata.Described.{Described}
use Rattle.pol_metaread.specs.declared.metadata.Listing.{Listing}

unfoldable pub uuid : Shape (List ℕ)
uuid = text_of parsed

-- which members are current
unfoldable pub current : Shape Current
current = do
  columns ← field key.CURRENT_SCHEMA_ID.now id
  shown ← optional key.CURRENT_SNAPSHOT_ID.now long
  sorted ← field key.DEFAULT_SORT_ORDER_ID.now id
  parted ← field key.DEFAULT_SPEC_ID.now id
  done (record { schema = columns; snapshot = shown; order = sorted; spec = parted })

-- the format version and the last numbers
unfoldable pub numbers : Shape Numbers
numbers = do
  format ← field key.FORMAT_VERSION.now version
  columns ← field key.LAST_COLUMN_ID.now column_id
  parts ← field key.LAST_PARTITION_ID.now last_field_id
  snapshots ← field key.LAST_SEQUENCE_NUMBER.now long
  moment ← field key.LAST_UPDATED_MS.now long
  done (record { version = format; column = columns; partition = parts; sequence = snapshots; updated = moment })

-- where a table lies, how it came to be, how it is partitioned, and its properties
unfoldable pub described : Shape Described
described = do
  placed ← field key.LOCATION.now text
  log ← field key.METADATA_LOG.now (list metadata_log_entry)
  specs ← field key.PARTITION_SPECS.now (list partition_spec)
  pairs ← field key.PROPERTIES.now text_map
  done (record { location = placed; metadata_log = log; partition_specs = specs; properties = pairs })

-- its references, schemas and snapshots
unfoldable pub listing : Shape Listing
listing = do
  named ← field key.REFS.now refs
  columns ← field key.SCHEMAS.now (list numbered_schema)
  log ← field key.SNAPSHOT_LOG.now (list snapshot_log_entry)
  states ← field key.SNAPSHOTS.now (list snapshot)
  done (record { refs = named; schemas = columns; snapshot_log = log; snapshots = states })

-- a metadata: its fields are tested in byte order of their keys
unfoldable pub table_metadata : Shape TableMetadata
table_metadata = do
  _ ← an_object
  shown ← current
  last ← numbers
  told ← described
  held ← listing
  orders ← field key.SORT_ORDERS.now (list sort_order)
  named ← field key.TABLE_UUID.now uuid
  done (record {
    current_schema_id = shown.schema;
    current_snapshot_id = shown.snapshot;
    default_sort_order_id = shown.order;
    default_spec_id = shown.spec;
    format_version = last.version;
    last_column_id = last.column;
    last_partition_id = last.partition;
    last_sequence_number = last.sequence;
    last_updated_ms = last.updated;
    location = told.location;
    metadata_log = told.metadata_log;
    partition_specs = told.partition_specs;
    properties = told.properties;
    refs = held.refs;
    schemas = held.schemas;
    snapshot_log = held.snapshot_log;
    snapshots = held.snapshots;
    sort_orders = orders;
    table_uuid = named;
  })
