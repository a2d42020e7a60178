-- A printed metadata is read as the same.
use Rattle.std.proofs.Common.{◌≡◌, ◌≤◌, ℕ, List, All, Option, None, Some, Ok, option_map, IsUtf8, refl, sym, ap, ◌∙◌, arith, inl}
use Rattle.serde_json.specs.Data.{Data, Members, depth, object, string}
use Rattle.serde_json.specs.Find.{get}
use Rattle.serde_json.specs.Read.{max_depth, read}
use Rattle.uuid.specs.Text.{hyphenated_text, lower}
use Rattle.uuid.proofs.RoundTrips.{parses_hyphenated}
use Rattle.pol_meta.specs.Valid.{HasForms, IsLong, IsMetadataLogEntry, IsPartitionSpec, IsSchema, IsSnapshotLogEntry, IsSortOrder}
use Rattle.pol_meta.specs.declared.metadata.TableMetadata.{TableMetadata}
use Rattle.pol_readers.specs.Exactness.{bodies_exact}
use Rattle.pol_readers.specs.Forms.{body}
use Rattle.pol_metaread.specs.Ids.{long}
use Rattle.pol_metaread.specs.Metadata.{current, described, listing, numbers, table_metadata, uuid}
use Rattle.pol_metaread.specs.Numbered.{numbered_schema, partition_spec, sort_order}
use Rattle.pol_metaread.specs.Snapshot.{metadata_log_entry, snapshot, snapshot_log_entry}
use Rattle.pol_metakeys.specs.declared.keys.TheConstants as key
use Rattle.pol_metaprint.specs.Json.{list_json, metadata_log_entry_json, number_json, pairs_json, partition_spec_json, refs_json, snapshot_json, snapshot_log_entry_json, sort_order_json}
use Rattle.pol_metaprint.specs.Metadata.{put_current, put_numbers, put_shapes, put_snapshots, put_table, schema_json, table_json}
use Rattle.pol_metalaws.specs.Laws.{IsHeld, IsUuid}
use Rattle.pol_metalaws.proofs.ObjectLemmas as objects
use Rattle.pol_metalaws.proofs.PartLemmas.{partition_spec_read, sort_order_read}
use Rattle.pol_metalaws.proofs.SchemaLemmas.{schema_read}
use Rattle.pol_metalaws.proofs.SnapshotLemmas.{IsKeptSnapshot, metadata_log_entry_read, refs_read, snapshot_log_entry_read, snapshot_read}

-- its members, whether there is a current snapshot or not
Has : TableMetadata → List ℕ → Data → Type 0
Has m name d = get name (table_json m) ≡ Some d

CurrentGets : TableMetadata → Type 0
CurrentGets m =
    Has m key.CURRENT_SCHEMA_ID.now (number_json m.current_schema_id)
    × (get key.CURRENT_SNAPSHOT_ID.now (table_json m) ≡ option_map number_json m.current_snapshot_id)
    × Has m key.DEFAULT_SORT_ORDER_ID.now (number_json m.default_sort_order_id)
    × Has m key.DEFAULT_SPEC_ID.now (number_json m.default_spec_id)

current_gets : (m : TableMetadata) (shown : Option ℕ) → m.current_snapshot_id ≡ shown → CurrentGets m
unfolding Has CurrentGets table_json put_current put_numbers put_shapes put_snapshots put_table
current_gets m None is = rw is (refl, refl, refl, refl)
current_gets m (Some n) is = rw is (refl, refl, refl, refl)

NumbersGets : TableMetadata → Type 0
NumbersGets m =
    Has m key.FORMAT_VERSION.now (number_json m.format_version)
    × Has m key.LAST_COLUMN_ID.now (number_json m.last_column_id)
    × Has m key.LAST_PARTITION_ID.now (number_json m.last_partition_id)
    × Has m key.LAST_SEQUENCE_NUMBER.now (number_json m.last_sequence_number)
    × Has m key.LAST_UPDATED_MS.now (number_json m.last_updated_ms)

numbers_gets : (m : TableMetadata) (shown : Option ℕ) → m.current_snapshot_id ≡ shown → NumbersGets m
unfolding Has NumbersGets table_json put_current put_numbers put_shapes put_snapshots put_table
numbers_gets m None is = rw is (refl, refl, refl, refl, refl)
numbers_gets m (Some n) is = rw is (refl, refl, refl, refl, refl)

DescribedGets : TableMetadata → Type 0
DescribedGets m =
    Has m key.LOCATION.now (string m.location)
    × Has m key.METADATA_LOG.now (list_json metadata_log_entry_json m.metadata_log)
    × Has m key.PARTITION_SPECS.now (list_json partition_spec_json m.partition_specs)
    × Has m key.PROPERTIES.now (pairs_json m.properties)

described_gets : (m : TableMetadata) (shown : Option ℕ) → m.current_snapshot_id ≡ shown → DescribedGets m
unfolding Has DescribedGets table_json put_current put_numbers put_shapes put_snapshots put_table
described_gets m None is = rw is (refl, refl, refl, refl)
described_gets m (Some n) is = rw is (refl, refl, refl, refl)

ListingGets : TableMetadata → Type 0
ListingGets m =
    Has m key.REFS.now (refs_json m.refs)
    × Has m key.SCHEMAS.now (list_json schema_json m.schemas)
    × Has m key.SNAPSHOT_LOG.now (list_json snapshot_log_entry_json m.snapshot_log)
    × Has m key.SNAPSHOTS.now (list_json snapshot_json m.snapshots)
    × Has m key.SORT_ORDERS.now (list_json sort_order_json m.sort_orders)
    × Has m key.TABLE_UUID.now (string (hyphenated_text lower m.table_uuid))

listing_gets : (m : TableMetadata) (shown : Option ℕ) → m.current_snapshot_id ≡ shown → ListingGets m
unfolding Has ListingGets table_json put_current put_numbers put_shapes put_snapshots put_table
listing_gets m None is = rw is (refl, refl, refl, refl, refl, refl)
listing_gets m (Some n) is = rw is (refl, refl, refl, refl, refl, refl)

an_object : (m : TableMetadata) → (ms : Members) × (table_json m ≡ object ms)
unfolding table_json
an_object m = (_, refl)

current_read : (m : TableMetadata) → HasForms m
    → current.stands (table_json m) (record {
      schema = m.current_schema_id;
      snapshot = m.current_snapshot_id;
      order =
          m.default_sort_order_id;
      spec = m.default_spec_id;
    })
unfolding current CurrentGets Has
current_read m forms =
    let gets = current_gets m m.current_snapshot_id refl in (
      m.current_schema_id,
      (_, gets.0, objects.up_to 2147483647 m.current_schema_id forms.current_schema),
      (
        m.current_snapshot_id,
        objects.may_hold long.stands IsLong objects.long _ m.current_snapshot_id gets.1 forms.current_snapshot,
        (
          m.default_sort_order_id,
          (_, gets.2, objects.up_to 2147483647 m.default_sort_order_id forms.default_order),
          (m.default_spec_id, (_, gets.3, objects.up_to 2147483647 m.default_spec_id forms.default_spec), refl),
        ),
      ),
    )

numbers_read : (m : TableMetadata) → HasForms m
    → numbers.stands (table_json m) (record {
      version = m.format_version;
      column = m.last_column_id;
      partition =
          m.last_partition_id;
      sequence = m.last_sequence_number;
      updated = m.last_updated_ms;
    })
unfolding numbers NumbersGets Has
numbers_read m forms =
    let gets = numbers_gets m m.current_snapshot_id refl in
    let least : 2 ≤ m.format_version = omega (arith, forms.version) in
    let most : m.format_version ≤ 2 = omega (arith, forms.version) in (
      m.format_version,
      (_, gets.0, objects.within 2 2 m.format_version least most),
      (
        m.last_column_id,
        (_, gets.1, objects.up_to 2147483447 m.last_column_id forms.column),
        (
          m.last_partition_id,
          (_, gets.2, objects.within 999 2147483647 m.last_partition_id forms.partition_least forms.partition_most),
          (
            m.last_sequence_number,
            (_, gets.3, objects.long m.last_sequence_number forms.sequence),
            (m.last_updated_ms, (_, gets.4, objects.long m.last_updated_ms forms.updated), refl),
          ),
        ),
      ),
    )

described_read : (m : TableMetadata) → HasForms m → IsHeld m
    → described.stands (table_json m) (record {
      location = m.location;
      metadata_log = m.metadata_log;
      partition_specs
          = m.partition_specs;
      properties = m.properties;
    })
unfolding described DescribedGets Has
described_read m forms held =
    let gets = described_gets m m.current_snapshot_id refl in (
      m.location,
      (_, gets.0, refl),
      (
        m.metadata_log,
        (
          _,
          gets.1,
          objects.list_read metadata_log_entry.stands metadata_log_entry_json IsMetadataLogEntry
              metadata_log_entry_read m.metadata_log forms.metadata_log,
        ),
        (
          m.partition_specs,
          (
            _,
            gets.2,
            objects.list_read partition_spec.stands partition_spec_json IsPartitionSpec partition_spec_read
                m.partition_specs forms.specs,
          ),
          (m.properties, (_, gets.3, objects.pairs_read m.properties held.properties), refl),
        ),
      ),
    )

listing_read : (m : TableMetadata) → HasForms m → IsHeld m
    → listing.stands (table_json m) (record {
      refs = m.refs;
      schemas = m.schemas;
      snapshot_log = m.snapshot_log;
      snapshots = m.snapshots;
    })
unfolding listing ListingGets Has
listing_read m forms held =
    let gets = listing_gets m m.current_snapshot_id refl in
    let snapshots : All IsKeptSnapshot m.snapshots = λ k d inside. record
    { form = forms.snapshots k d inside; summary = held.summaries k d inside } in (
      m.refs,
      (_, gets.0, refs_read m.refs forms.refs forms.ordered),
      (
        m.schemas,
        (_, gets.1, objects.list_read numbered_schema.stands schema_json IsSchema schema_read m.schemas forms.schemas),
        (
          m.snapshot_log,
          (
            _,
            gets.2,
            objects.list_read snapshot_log_entry.stands snapshot_log_entry_json IsSnapshotLogEntry
                snapshot_log_entry_read m.snapshot_log forms.snapshot_log,
          ),
          (
            m.snapshots,
            (
              _,
              gets.3,
              objects.list_read snapshot.stands snapshot_json IsKeptSnapshot snapshot_read
                  m.snapshots snapshots,
            ),
            refl,
          ),
        ),
      ),
    )

pub uuid_read : (bytes : List ℕ) → IsUuid bytes → uuid.stands (string (hyphenated_text lower bytes)) bytes
unfolding uuid
uuid_read bytes valid = (
  hyphenated_text lower bytes,
  refl,
  sym
      (parses_hyphenated lower bytes (inl refl) valid.count valid.bytes),
)

table_stands : (m : TableMetadata) → HasForms m → IsHeld m → table_metadata.stands (table_json m) m
unfolding table_metadata ListingGets Has
table_stands m forms held =
    let gets = listing_gets m m.current_snapshot_id refl in (
      tt,
      an_object m,
      (
        _,
        current_read m forms,
        (
          _,
          numbers_read m forms,
          (
            _,
            described_read m forms held,
            (
              _,
              listing_read m forms held,
              (
                m.sort_orders,
                (
                  _,
                  gets.4,
                  objects.list_read sort_order.stands sort_order_json IsSortOrder sort_order_read
                      m.sort_orders forms.orders,
                ),
                (m.table_uuid, (_, gets.5, uuid_read m.table_uuid held.uuid), refl),
              ),
            ),
          ),
        ),
      ),
    )

pub printed_is_read : (m : TableMetadata) → HasForms m → IsHeld m → table_metadata.read (table_json m) ≡ Ok m
printed_is_read m forms held = table_metadata.exact.complete (table_json m) m (table_stands m forms held)

-- so is a text that is read as what is printed
pub text_is_read : (m : TableMetadata) (d : Data) (text : List ℕ) → HasForms m → IsHeld m → d ≡ table_json m
    → depth d ≤ max_depth → IsUtf8 text → (depth d ≤ max_depth → read text ≡ Some d)
    → body table_metadata.read text ≡ Ok m
text_is_read m d text forms held is nests utf8 back =
    (bodies_exact table_metadata.exact).complete text m
    (table_json m, utf8, back nests ∙ ap Some is, an_object m, table_stands m forms held)
