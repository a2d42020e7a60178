-- What the JSON of schemas and of a whole metadata holds (Iceberg table spec, Appendix C).
use Rattle.std.specs.Prelude.{ℕ, ◌==◌, List, length, if◌then◌else◌}
use Rattle.uuid.specs.Text.{hyphenated_text, lower}
use Rattle.serde_json.specs.Data.{Data, Members, no_members, object, put, string}
use Rattle.pol_meta.specs.declared.metadata.TableMetadata.{TableMetadata}
use Rattle.pol_meta.specs.declared.schema.Schema.{Schema}
use Rattle.pol_metakeys.specs.declared.keys.TheConstants as key
use Rattle.pol_metaprint.specs.Columns.{field_json, trees_of}
use Rattle.pol_metaprint.specs.Json.{list_json, metadata_log_entry_json, number_json, pairs_json, partition_spec_json, put_number, refs_json, snapshot_json, snapshot_log_entry_json, sort_order_json}

-- the ids of the fields that tell rows apart, if there are any
abbrev pub put_ids : List ℕ → Members → Members
put_ids ids members =
    if length ids == 0 then members else put key.IDENTIFIER_FIELD_IDS.now (list_json number_json ids) members

unfoldable pub schema_json : Schema → Data
schema_json schema =
    object (put key.TYPE.now (string key.STRUCT.now)
    (put key.SCHEMA_ID.now (number_json schema.schema_id)
    (put_ids schema.identifier_field_ids
    (put key.FIELDS.now (list_json field_json (trees_of schema.fields)) no_members))))

-- the numbers of a metadata
unfoldable pub put_numbers : TableMetadata → Members → Members
put_numbers meta members =
    put key.LAST_UPDATED_MS.now (number_json meta.last_updated_ms)
    (put key.LAST_SEQUENCE_NUMBER.now (number_json meta.last_sequence_number)
    (put key.LAST_PARTITION_ID.now (number_json meta.last_partition_id)
    (put key.LAST_COLUMN_ID.now (number_json meta.last_column_id)
    (put key.FORMAT_VERSION.now (number_json meta.format_version) members))))

-- which of its members are current
unfoldable pub put_current : TableMetadata → Members → Members
put_current meta members =
    put key.DEFAULT_SPEC_ID.now (number_json meta.default_spec_id)
    (put key.DEFAULT_SORT_ORDER_ID.now (number_json meta.default_sort_order_id)
    (put_number key.CURRENT_SNAPSHOT_ID.now meta.current_snapshot_id
    (put key.CURRENT_SCHEMA_ID.now (number_json meta.current_schema_id) members)))

-- its schemas, specs and orders
unfoldable pub put_shapes : TableMetadata → Members → Members
put_shapes meta members =
    put key.SORT_ORDERS.now (list_json sort_order_json meta.sort_orders)
    (put key.SCHEMAS.now (list_json schema_json meta.schemas)
    (put key.PARTITION_SPECS.now (list_json partition_spec_json meta.partition_specs) members))

-- its snapshots, and what is told of them
unfoldable pub put_snapshots : TableMetadata → Members → Members
put_snapshots meta members =
    put key.SNAPSHOTS.now (list_json snapshot_json meta.snapshots)
    (put key.SNAPSHOT_LOG.now (list_json snapshot_log_entry_json meta.snapshot_log)
    (put key.REFS.now (refs_json meta.refs) members))

-- what it is of
unfoldable pub put_table : TableMetadata → Members → Members
put_table meta members =
    put key.TABLE_UUID.now (string (hyphenated_text lower meta.table_uuid))
    (put key.PROPERTIES.now (pairs_json meta.properties) members)

-- what stands in front of its metadata log, and behind it
abbrev pub put_front : TableMetadata → Members → Members
put_front meta members = put_numbers meta (put_current meta (put key.LOCATION.now (string meta.location) members))

abbrev pub put_back : TableMetadata → Members → Members
put_back meta members = put_shapes meta (put_snapshots meta (put_table meta members))

-- a metadata
unfoldable pub table_json : TableMetadata → Data
table_json meta =
    object (put_back meta
    (put key.METADATA_LOG.now (list_json metadata_log_entry_json meta.metadata_log) (put_front meta no_members)))
