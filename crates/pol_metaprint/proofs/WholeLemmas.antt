-- No printed metadata has a float.
use Rattle.std.proofs.Common.{◌≡◌, ◌==◌, ℕ, Bool, true, false, ◌||◌, nat_lt, List, [], ◌∷◌, length, map, Option, None, Some, Ordering, Less, Equal, Greater, if◌then◌else◌, refl}
use Rattle.std.specs.Bool.{⊤}
use Rattle.std.specs.Cmp.Lexicographic.{slice_cmp}
use Rattle.std.specs.List.{fold}
use Rattle.std.specs.Ordering.{match_ordering, nat_cmp}
use Rattle.uuid.specs.Text.{hyphenated_text, lower}
use Rattle.serde_json.specs.Data.{Data, Members, boolean, member, no_members, null, object, put, string}
use Rattle.serde_json.specs.View.{items_of}
use Rattle.serde_json.specs.Written.{has_float, items_have_float, members_have_float}
use Rattle.pol_properties.specs.declared.property.Property.{Property}
use Rattle.pol_meta.specs.declared.column.Column.{Column}
use Rattle.pol_meta.specs.declared.column.Kind.{Kind}
use Rattle.pol_meta.specs.declared.column.Kind.TheVariants as kind
use Rattle.pol_meta.specs.declared.column.Part.{Part}
use Rattle.pol_meta.specs.declared.column.Part.TheVariants.{Field, Element, Key, Value}
use Rattle.pol_meta.specs.declared.log.MetadataLogEntry.{MetadataLogEntry}
use Rattle.pol_meta.specs.declared.log.SnapshotLogEntry.{SnapshotLogEntry}
use Rattle.pol_meta.specs.declared.metadata.TableMetadata.{TableMetadata}
use Rattle.pol_meta.specs.declared.partition.PartitionField.{PartitionField}
use Rattle.pol_meta.specs.declared.partition.PartitionSpec.{PartitionSpec}
use Rattle.pol_meta.specs.declared.reference.NamedRef.{NamedRef}
use Rattle.pol_meta.specs.declared.reference.SnapshotRef.{SnapshotRef}
use Rattle.pol_meta.specs.declared.schema.Schema.{Schema}
use Rattle.pol_meta.specs.declared.snapshot.Snapshot.{Snapshot}
use Rattle.pol_meta.specs.declared.sort.SortField.{SortField}
use Rattle.pol_meta.specs.declared.sort.SortOrder.{SortOrder}
use Rattle.pol_metakeys.specs.declared.keys.TheConstants as key
use Rattle.pol_metaprint.specs.Columns.{Tree, beside_of, field_json, grown, inner_of, is_required, kind_json, list_of, map_of, part_json, put_text, struct_json, trees_of}
use Rattle.pol_metaprint.specs.Json.{list_json, metadata_log_entry_json, number_json, pairs_json, partition_field_json, partition_spec_json, put_number, put_pair, put_ref, reference_json, refs_json, snapshot_json, snapshot_log_entry_json, sort_field_json, sort_order_json}
use Rattle.pol_metaprint.specs.Texts.{kind_text, ref_kind_text}
use Rattle.pol_metaprint.specs.Metadata.{put_back, put_current, put_front, put_ids, put_numbers, put_shapes, put_snapshots, put_table, schema_json, table_json}

-- JSON in which no number is a float
pub record IsWhole (d : Data) : Type 0 where
  pub none : has_float d ≡ false

pub record AreWhole (ms : Members) : Type 0 where
  pub none : members_have_float ms ≡ false

pub number_whole : (n : ℕ) → IsWhole (number_json n)
number_whole n = record { none = refl }

pub text_whole : (text : List ℕ) → IsWhole (string text)
text_whole text = record { none = refl }

truth_whole : (b : Bool) → IsWhole (boolean b)
truth_whole b = record { none = refl }

null_whole : IsWhole null
null_whole = record { none = refl }

pub empty_whole : AreWhole no_members
empty_whole = record { none = refl }

pub object_whole : {ms : Members} → AreWhole ms → IsWhole (object ms)
object_whole whole = record { none = whole.none }

or_whole : (b c : Bool) → (b || c) ≡ false → (b ≡ false) × (c ≡ false)
or_whole false c is = (refl, is)
or_whole true c is = absurd (cc)

-- one more member
placed_whole : (o : Ordering) (key k : List ℕ) (d e : Data) (ms : Members) → has_float d ≡ false → has_float e ≡ false → members_have_float ms ≡ false → members_have_float (put key d ms) ≡ false
    → members_have_float (match_ordering o (member key d (member k e ms)) (member k d ms) (member k e (put key d ms))) ≡ false
placed_whole Less key k d e ms new first rest placed = rw (new, first, rest) refl
placed_whole Equal key k d e ms new first rest placed = rw (new, rest) refl
placed_whole Greater key k d e ms new first rest placed = rw (first, placed) refl

put_plain : (key : List ℕ) (d : Data) (ms : Members) → has_float d ≡ false → members_have_float ms ≡ false → members_have_float (put key d ms) ≡ false
put_plain key d no_members new whole = rw new refl
put_plain key d (member k e ms) new whole =
    let parts = or_whole (has_float e) (members_have_float ms) whole in
    placed_whole (slice_cmp nat_cmp key k) key k d e ms new parts.0 parts.1 (put_plain key d ms new parts.1)

pub put_whole : (key : List ℕ) {d : Data} {ms : Members} → IsWhole d → AreWhole ms → AreWhole (put key d ms)
put_whole key {d} {ms} new whole = record { none = put_plain key d ms new.none whole.none }

put_number_whole : (key : List ℕ) (n : Option ℕ) {ms : Members} → AreWhole ms → AreWhole (put_number key n ms)
put_number_whole key None whole = whole
put_number_whole key (Some n) whole = put_whole key (number_whole n) whole

pub put_text_whole : (key : List ℕ) (text : Option (List ℕ)) {ms : Members} → AreWhole ms → AreWhole (put_text key text ms)
put_text_whole key None whole = whole
put_text_whole key (Some text) whole = put_whole key (text_whole text) whole

-- lists
items_whole : {A : Type 0} (json : A → Data) → ((x : A) → IsWhole (json x)) → (xs : List A) → items_have_float (items_of (map json xs)) ≡ false
items_whole json each [] = refl
items_whole json each (x ∷ xs) = rw ((each x).none, items_whole json each xs) refl

pub list_whole : {A : Type 0} (json : A → Data) → ((x : A) → IsWhole (json x)) → (xs : List A) → IsWhole (list_json json xs)
list_whole json each xs = record { none = items_whole json each xs }

-- objects
pairs_put : (pairs : List Property) (ms : Members) → AreWhole ms → AreWhole (fold put_pair ms pairs)
pairs_put [] ms whole = whole
pairs_put (pair ∷ pairs) ms whole =
    pairs_put pairs (put_pair ms pair) (put_whole pair.key (text_whole pair.value) whole)

pub pairs_whole : (pairs : List Property) → IsWhole (pairs_json pairs)
unfolding pairs_json
pairs_whole pairs = object_whole (pairs_put pairs no_members empty_whole)

reference_whole : (reference : SnapshotRef) → IsWhole (reference_json reference)
unfolding reference_json
reference_whole reference =
    object_whole (put_whole key.TYPE.now (text_whole (ref_kind_text reference.kind))
    (put_whole key.SNAPSHOT_ID.now (number_whole reference.snapshot_id)
    (put_number_whole key.MIN_SNAPSHOTS_TO_KEEP.now reference.min_snapshots_to_keep
    (put_number_whole key.MAX_SNAPSHOT_AGE_MS.now reference.max_snapshot_age_ms
    (put_number_whole key.MAX_REF_AGE_MS.now reference.max_ref_age_ms empty_whole)))))

refs_put : (refs : List NamedRef) (ms : Members) → AreWhole ms → AreWhole (fold put_ref ms refs)
refs_put [] ms whole = whole
refs_put (named ∷ refs) ms whole =
    refs_put refs (put_ref ms named) (put_whole named.name (reference_whole named.reference) whole)

refs_whole : (refs : List NamedRef) → IsWhole (refs_json refs)
unfolding refs_json
refs_whole refs = object_whole (refs_put refs no_members empty_whole)

sort_field_whole : (field : SortField) → IsWhole (sort_field_json field)
unfolding sort_field_json
sort_field_whole field = search (object_whole, put_whole, text_whole, number_whole, empty_whole)

sort_order_whole : (order : SortOrder) → IsWhole (sort_order_json order)
unfolding sort_order_json
sort_order_whole order =
    search (object_whole, put_whole, number_whole, list_whole sort_field_json sort_field_whole order.fields, empty_whole)

partition_field_whole : (field : PartitionField) → IsWhole (partition_field_json field)
unfolding partition_field_json
partition_field_whole field = search (object_whole, put_whole, text_whole, number_whole, empty_whole)

partition_spec_whole : (spec : PartitionSpec) → IsWhole (partition_spec_json spec)
unfolding partition_spec_json
partition_spec_whole spec =
    search (object_whole, put_whole, number_whole, list_whole partition_field_json partition_field_whole spec.fields, empty_whole)

snapshot_whole : (snapshot : Snapshot) → IsWhole (snapshot_json snapshot)
unfolding snapshot_json
snapshot_whole snapshot =
    object_whole (put_whole key.TIMESTAMP_MS.now (number_whole snapshot.timestamp_ms)
    (put_whole key.SUMMARY.now (pairs_whole snapshot.summary)
    (put_whole key.SNAPSHOT_ID.now (number_whole snapshot.snapshot_id)
    (put_whole key.SEQUENCE_NUMBER.now (number_whole snapshot.sequence_number)
    (put_number_whole key.SCHEMA_ID.now snapshot.schema_id
    (put_number_whole key.PARENT_SNAPSHOT_ID.now snapshot.parent_snapshot_id
    (put_whole key.MANIFEST_LIST.now (text_whole snapshot.manifest_list) empty_whole)))))))

metadata_log_entry_whole : (entry : MetadataLogEntry) → IsWhole (metadata_log_entry_json entry)
unfolding metadata_log_entry_json
metadata_log_entry_whole entry = search (object_whole, put_whole, number_whole, text_whole, empty_whole)

snapshot_log_entry_whole : (entry : SnapshotLogEntry) → IsWhole (snapshot_log_entry_json entry)
unfolding snapshot_log_entry_json
snapshot_log_entry_whole entry = search (object_whole, put_whole, number_whole, empty_whole)

-- columns
abbrev AreTreesWhole : List Tree → Type 0
AreTreesWhole [] = ⊤
AreTreesWhole (tree ∷ trees) = IsWhole tree.json × AreTreesWhole trees

part_whole : (part : Part) (id : ℕ) (json : Data) → IsWhole json → IsWhole (part_json part id json)
part_whole (Field name required doc) id json whole =
    object_whole (put_whole key.TYPE.now whole (put_whole key.REQUIRED.now (truth_whole required)
    (put_whole key.NAME.now (text_whole name) (put_whole key.ID.now (number_whole id) (put_text_whole key.DOC.now doc empty_whole)))))
part_whole (Element required) id json whole = null_whole
part_whole Key id json whole = null_whole
part_whole (Value required) id json whole = null_whole

field_whole : (tree : Tree) → IsWhole tree.json → IsWhole (field_json tree)
unfolding field_json
field_whole tree whole = part_whole tree.column.part tree.column.id tree.json whole

fields_none : (trees : List Tree) → AreTreesWhole trees → has_float (list_json field_json trees) ≡ false
fields_none [] whole = refl
fields_none (tree ∷ trees) whole = rw ((field_whole tree whole.0).none, fields_none trees whole.1) refl

fields_whole : (trees : List Tree) → AreTreesWhole trees → IsWhole (list_json field_json trees)
fields_whole trees whole = record { none = fields_none trees whole }

struct_whole : (trees : List Tree) → AreTreesWhole trees → IsWhole (struct_json trees)
unfolding struct_json
struct_whole trees whole =
    object_whole (put_whole key.TYPE.now (text_whole key.STRUCT.now) (put_whole key.FIELDS.now (fields_whole trees whole) empty_whole))

list_of_whole : (trees : List Tree) → AreTreesWhole trees → IsWhole (list_of trees)
unfolding list_of
list_of_whole [] whole = null_whole
list_of_whole (element ∷ []) whole =
    object_whole (put_whole key.TYPE.now (text_whole key.LIST.now)
    (put_whole key.ELEMENT_REQUIRED.now (truth_whole (is_required element.column.part))
    (put_whole key.ELEMENT_ID.now (number_whole element.column.id) (put_whole key.ELEMENT.now whole.0 empty_whole))))
list_of_whole (element ∷ next ∷ rest) whole = null_whole

map_of_whole : (trees : List Tree) → AreTreesWhole trees → IsWhole (map_of trees)
unfolding map_of
map_of_whole [] whole = null_whole
map_of_whole (first ∷ []) whole = null_whole
map_of_whole (first ∷ second ∷ []) whole =
    object_whole (put_whole key.TYPE.now (text_whole key.MAP.now)
    (put_whole key.VALUE_REQUIRED.now (truth_whole (is_required second.column.part))
    (put_whole key.VALUE_ID.now (number_whole second.column.id) (put_whole key.VALUE.now whole.1.0
    (put_whole key.KEY_ID.now (number_whole first.column.id) (put_whole key.KEY.now whole.0 empty_whole))))))
map_of_whole (first ∷ second ∷ next ∷ rest) whole = null_whole

kind_whole : (of : Kind) (trees : List Tree) → AreTreesWhole trees → IsWhole (kind_json of trees)
kind_whole kind.Struct trees whole = struct_whole trees whole
kind_whole kind.List trees whole = list_of_whole trees whole
kind_whole kind.Map trees whole = map_of_whole trees whole
kind_whole other trees whole = text_whole (kind_text other)

if_whole : (b : Bool) (yes_trees no_trees : List Tree) → AreTreesWhole yes_trees → AreTreesWhole no_trees → AreTreesWhole (if b then yes_trees else no_trees)
if_whole true yes_trees no_trees first second = first
if_whole false yes_trees no_trees first second = second

inner_whole : (depth : ℕ) (trees : List Tree) → AreTreesWhole trees → AreTreesWhole (inner_of depth trees)
inner_whole depth [] whole = whole
inner_whole depth (tree ∷ trees) whole =
    if_whole (nat_lt depth tree.column.depth) (tree ∷ inner_of depth trees) [] (whole.0, inner_whole depth trees whole.1) tt

beside_whole : (depth : ℕ) (trees : List Tree) → AreTreesWhole trees → AreTreesWhole (beside_of depth trees)
beside_whole depth [] whole = whole
beside_whole depth (tree ∷ trees) whole =
    if_whole (nat_lt depth tree.column.depth) (beside_of depth trees) (tree ∷ trees) (beside_whole depth trees whole.1) whole

grown_whole : (column : Column) (trees : List Tree) → AreTreesWhole trees → AreTreesWhole (grown column trees)
unfolding grown
grown_whole column trees whole =
    (kind_whole column.kind (inner_of column.depth trees) (inner_whole column.depth trees whole), beside_whole column.depth trees whole)

trees_whole : (columns : List Column) → AreTreesWhole (trees_of columns)
trees_whole [] = tt
trees_whole (column ∷ columns) = grown_whole column (trees_of columns) (trees_whole columns)

ids_whole : (ids : List ℕ) {ms : Members} → AreWhole ms → AreWhole (put_ids ids ms)
ids_whole ids {ms} whole = by (length ids == 0)
  where
    by : (b : Bool) → AreWhole (if b then ms else put key.IDENTIFIER_FIELD_IDS.now (list_json number_json ids) ms)
    by true = whole
    by false = put_whole key.IDENTIFIER_FIELD_IDS.now (list_whole number_json number_whole ids) whole

pub schema_whole : (schema : Schema) → IsWhole (schema_json schema)
unfolding schema_json
schema_whole schema =
    object_whole (put_whole key.TYPE.now (text_whole key.STRUCT.now)
    (put_whole key.SCHEMA_ID.now (number_whole schema.schema_id) (ids_whole schema.identifier_field_ids
    (put_whole key.FIELDS.now (fields_whole (trees_of schema.fields) (trees_whole schema.fields)) empty_whole))))

-- a whole metadata
table_put : (meta : TableMetadata) {ms : Members} → AreWhole ms → AreWhole (put_table meta ms)
unfolding put_table
table_put meta whole =
    put_whole key.TABLE_UUID.now (text_whole (hyphenated_text lower meta.table_uuid))
    (put_whole key.PROPERTIES.now (pairs_whole meta.properties) whole)

snapshots_put : (meta : TableMetadata) {ms : Members} → AreWhole ms → AreWhole (put_snapshots meta ms)
unfolding put_snapshots
snapshots_put meta whole =
    put_whole key.SNAPSHOTS.now (list_whole snapshot_json snapshot_whole meta.snapshots)
    (put_whole key.SNAPSHOT_LOG.now (list_whole snapshot_log_entry_json snapshot_log_entry_whole meta.snapshot_log)
    (put_whole key.REFS.now (refs_whole meta.refs) whole))

shapes_put : (meta : TableMetadata) {ms : Members} → AreWhole ms → AreWhole (put_shapes meta ms)
unfolding put_shapes
shapes_put meta whole =
    put_whole key.SORT_ORDERS.now (list_whole sort_order_json sort_order_whole meta.sort_orders)
    (put_whole key.SCHEMAS.now (list_whole schema_json schema_whole meta.schemas)
    (put_whole key.PARTITION_SPECS.now (list_whole partition_spec_json partition_spec_whole meta.partition_specs) whole))

current_put : (meta : TableMetadata) {ms : Members} → AreWhole ms → AreWhole (put_current meta ms)
unfolding put_current
current_put meta whole =
    put_whole key.DEFAULT_SPEC_ID.now (number_whole meta.default_spec_id)
    (put_whole key.DEFAULT_SORT_ORDER_ID.now (number_whole meta.default_sort_order_id)
    (put_number_whole key.CURRENT_SNAPSHOT_ID.now meta.current_snapshot_id
    (put_whole key.CURRENT_SCHEMA_ID.now (number_whole meta.current_schema_id) whole)))

numbers_put : (meta : TableMetadata) {ms : Members} → AreWhole ms → AreWhole (put_numbers meta ms)
unfolding put_numbers
numbers_put meta whole =
    put_whole key.LAST_UPDATED_MS.now (number_whole meta.last_updated_ms)
    (put_whole key.LAST_SEQUENCE_NUMBER.now (number_whole meta.last_sequence_number)
    (put_whole key.LAST_PARTITION_ID.now (number_whole meta.last_partition_id)
    (put_whole key.LAST_COLUMN_ID.now (number_whole meta.last_column_id)
    (put_whole key.FORMAT_VERSION.now (number_whole meta.format_version) whole))))

front_put : (meta : TableMetadata) {ms : Members} → AreWhole ms → AreWhole (put_front meta ms)
front_put meta whole = numbers_put meta (current_put meta (put_whole key.LOCATION.now (text_whole meta.location) whole))

back_put : (meta : TableMetadata) {ms : Members} → AreWhole ms → AreWhole (put_back meta ms)
back_put meta whole = shapes_put meta (snapshots_put meta (table_put meta whole))

pub front_whole : (meta : TableMetadata) → members_have_float (put_front meta no_members) ≡ false
front_whole meta = (front_put meta empty_whole).none

pub back_whole : (meta : TableMetadata) → members_have_float (put_back meta no_members) ≡ false
back_whole meta = (back_put meta empty_whole).none

pub table_whole : (meta : TableMetadata) → has_float (table_json meta) ≡ false
unfolding table_json
table_whole meta = (object_whole (back_put meta
    (put_whole key.METADATA_LOG.now (list_whole metadata_log_entry_json metadata_log_entry_whole meta.metadata_log)
    (front_put meta empty_whole)))).none
