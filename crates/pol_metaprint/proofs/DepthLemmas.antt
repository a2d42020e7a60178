-- No printed metadata nests deeper than JSON that is read may.
use Rattle.std.proofs.Common.{◌≡◌, ◌==◌, ◌≤◌, ◌<◌, ◌+◌, ◌-◌, ◌*◌, ℕ, suc, max, Bool, true, false, nat_lt, List, [], ◌∷◌, length, map, All, Option, None, Some, Ordering, Less, Equal, Greater, if◌then◌else◌, refl, arith}
use Rattle.std.specs.Bool.{⊤}
use Rattle.std.specs.Cmp.Lexicographic.{slice_cmp}
use Rattle.std.specs.List.{fold}
use Rattle.std.specs.Ordering.{match_ordering, nat_cmp}
use Rattle.std.proofs.lemmas.Bool.{ltb-true}
use Rattle.std.proofs.lemmas.List.Elements.{All-head, All-tail}
use Rattle.uuid.specs.Text.{hyphenated_text, lower}
use Rattle.serde_json.specs.Data.{Data, Members, boolean, depth, items_depth, member, members_depth, no_members, null, object, put, string}
use Rattle.serde_json.specs.View.{items_of}
use Rattle.pol_properties.specs.declared.property.Property.{Property}
use Rattle.pol_meta.specs.Valid.{HasForms, IsColumn, IsSchema, levels}
use Rattle.pol_meta.specs.declared.column.Column.{Column}
use Rattle.pol_meta.specs.declared.column.Kind.{Kind}
use Rattle.pol_meta.specs.declared.column.Kind.TheVariants as kind
use Rattle.pol_meta.specs.declared.column.Part.{Part}
use Rattle.pol_meta.specs.declared.column.Part.TheVariants.{Field, Element, Key, Value}
use Rattle.pol_meta.specs.declared.log.MetadataLogEntry.{MetadataLogEntry}
use Rattle.pol_meta.specs.declared.log.SnapshotLogEntry.{SnapshotLogEntry}
use Rattle.pol_meta.specs.declared.metadata.TableMetadata.{TableMetadata}
use Rattle.pol_meta.specs.declared.partition.PartitionField.{PartitionField}
use Rattle.pol_meta.specs.declared.partition.PartitionSpec.{PartitionSpec}
use Rattle.pol_meta.specs.declared.reference.NamedRef.{NamedRef}
use Rattle.pol_meta.specs.declared.reference.SnapshotRef.{SnapshotRef}
use Rattle.pol_meta.specs.declared.schema.Schema.{Schema}
use Rattle.pol_meta.specs.declared.snapshot.Snapshot.{Snapshot}
use Rattle.pol_meta.specs.declared.sort.SortField.{SortField}
use Rattle.pol_meta.specs.declared.sort.SortOrder.{SortOrder}
use Rattle.pol_metakeys.specs.declared.keys.TheConstants as key
use Rattle.pol_metaprint.specs.Columns.{Tree, beside_of, field_json, grown, inner_of, is_required, kind_json, list_of, map_of, part_json, put_text, struct_json, trees_of}
use Rattle.pol_metaprint.specs.Json.{list_json, metadata_log_entry_json, number_json, pairs_json, partition_field_json, partition_spec_json, put_number, put_pair, put_ref, reference_json, refs_json, snapshot_json, snapshot_log_entry_json, sort_field_json, sort_order_json}
use Rattle.pol_metaprint.specs.Texts.{direction_text, null_order_text, ref_kind_text, transform_text}
use Rattle.pol_metaprint.specs.Metadata.{put_current, put_ids, put_numbers, put_shapes, put_snapshots, put_table, schema_json, table_json}

-- JSON that nests at most so deep
pub record IsWithin (n : ℕ) (d : Data) : Type 0 where
  pub most : depth d ≤ n

pub record AreWithin (n : ℕ) (ms : Members) : Type 0 where
  pub most : members_depth ms ≤ n

least : (n : ℕ) → 0 ≤ n
least n = omega arith

outer : (m n : ℕ) → m ≤ n → suc m ≤ n + 1
outer m n room = omega (arith, room)

both_most : (first second n : ℕ) → first ≤ n → second ≤ n → max first second ≤ n
both_most first second n one other = omega (arith, one, other)

first_most : (first second n : ℕ) → max first second ≤ n → first ≤ n
first_most first second n both = omega (arith, both)

second_most : (first second n : ℕ) → max first second ≤ n → second ≤ n
second_most first second n both = omega (arith, both)

through : (k m n : ℕ) → m ≤ n → k ≤ m → k ≤ n
through k m n room within = omega (arith, room, within)

pub raise : (m n : ℕ) {d : Data} → m ≤ n → IsWithin m d → IsWithin n d
raise m n {d} room within = record { most = through (depth d) m n room within.most }

pub number_within : (n m : ℕ) → IsWithin n (number_json m)
number_within n m = record { most = least n }

pub text_within : (n : ℕ) (text : List ℕ) → IsWithin n (string text)
text_within n text = record { most = least n }

truth_within : (n : ℕ) (b : Bool) → IsWithin n (boolean b)
truth_within n b = record { most = least n }

null_within : (n : ℕ) → IsWithin n null
null_within n = record { most = least n }

pub empty_within : (n : ℕ) → AreWithin n no_members
empty_within n = record { most = least n }

pub object_within : (n : ℕ) {ms : Members} → AreWithin n ms → IsWithin (n + 1) (object ms)
object_within n {ms} within = record { most = outer (members_depth ms) n within.most }

-- one more member
placed_most : (o : Ordering) (first second third : Members) (n : ℕ) → members_depth first ≤ n
    → members_depth second ≤ n → members_depth third ≤ n → members_depth (match_ordering o first second third) ≤ n
placed_most Less first second third n less equal greater = less
placed_most Equal first second third n less equal greater = equal
placed_most Greater first second third n less equal greater = greater

put_most : (name : List ℕ) (d : Data) (ms : Members) (n : ℕ) → depth d ≤ n → members_depth ms ≤ n
    → members_depth (put name d ms) ≤ n
put_most name d no_members n new rest = both_most (depth d) 0 n new (least n)
put_most name d (member other e ms) n new rest =
    let later = second_most (depth e) (members_depth ms) n rest in
    placed_most (slice_cmp nat_cmp name other) (member name d (member other e ms)) (member other d ms)
    (member other e (put name d ms)) n
    (both_most (depth d) (members_depth (member other e ms)) n new rest)
    (both_most (depth d) (members_depth ms) n new later)
    (both_most (depth e) (members_depth (put name d ms)) n (first_most (depth e) (members_depth ms) n rest)
    (put_most name d ms n new later))

pub put_within : (n : ℕ) (name : List ℕ) {d : Data} {ms : Members} → IsWithin n d → AreWithin n ms
    → AreWithin n (put name d ms)
put_within n name {d} {ms} new rest = record { most = put_most name d ms n new.most rest.most }

put_number_within : (n : ℕ) (name : List ℕ) (given : Option ℕ) {ms : Members} → AreWithin n ms
    → AreWithin n (put_number name given ms)
put_number_within n name None rest = rest
put_number_within n name (Some m) rest = put_within n name (number_within n m) rest

pub put_text_within : (n : ℕ) (name : List ℕ) (given : Option (List ℕ)) {ms : Members} → AreWithin n ms
    → AreWithin n (put_text name given ms)
put_text_within n name None rest = rest
put_text_within n name (Some text) rest = put_within n name (text_within n text) rest

-- lists
items_most : {A : Type 0} (n : ℕ) (json : A → Data) (P : A → Type 0) → ((x : A) → P x → IsWithin n (json x))
    → (xs : List A) → All P xs → items_depth (items_of (map json xs)) ≤ n
items_most n json P each [] all = least n
items_most n json P each (x ∷ xs) all =
    both_most (depth (json x)) (items_depth (items_of (map json xs))) n (each x (All-head P x xs all)).most
    (items_most n json P each xs (All-tail P x xs all))

pub list_of_within : {A : Type 0} (n : ℕ) (json : A → Data) (P : A → Type 0) → ((x : A) → P x → IsWithin n (json x))
    → (xs : List A) → All P xs → IsWithin (n + 1) (list_json json xs)
list_of_within n json P each xs all =
    record { most = outer (items_depth (items_of (map json xs))) n (items_most n json P each xs all) }

pub list_within : {A : Type 0} (n : ℕ) (json : A → Data) → ((x : A) → IsWithin n (json x)) → (xs : List A)
    → IsWithin (n + 1) (list_json json xs)
list_within n json each xs = list_of_within n json (λ x. ⊤) (λ x so. each x) xs (λ k d inside. tt)

-- objects
pairs_put : (pairs : List Property) {ms : Members} → AreWithin 0 ms → AreWithin 0 (fold put_pair ms pairs)
pairs_put [] rest = rest
pairs_put (pair ∷ pairs) rest = pairs_put pairs (put_within 0 pair.key (text_within 0 pair.value) rest)

pub pairs_within : (pairs : List Property) → IsWithin 1 (pairs_json pairs)
unfolding pairs_json
pairs_within pairs = object_within 0 (pairs_put pairs (empty_within 0))

reference_within : (reference : SnapshotRef) → IsWithin 1 (reference_json reference)
unfolding reference_json
reference_within reference =
    object_within 0 (put_within 0 key.TYPE.now (text_within 0 (ref_kind_text reference.kind))
    (put_within 0 key.SNAPSHOT_ID.now (number_within 0 reference.snapshot_id)
    (put_number_within 0 key.MIN_SNAPSHOTS_TO_KEEP.now reference.min_snapshots_to_keep
    (put_number_within 0 key.MAX_SNAPSHOT_AGE_MS.now reference.max_snapshot_age_ms
    (put_number_within 0 key.MAX_REF_AGE_MS.now reference.max_ref_age_ms (empty_within 0))))))

refs_put : (refs : List NamedRef) {ms : Members} → AreWithin 1 ms → AreWithin 1 (fold put_ref ms refs)
refs_put [] rest = rest
refs_put (named ∷ refs) rest = refs_put refs (put_within 1 named.name (reference_within named.reference) rest)

refs_within : (refs : List NamedRef) → IsWithin 2 (refs_json refs)
unfolding refs_json
refs_within refs = object_within 1 (refs_put refs (empty_within 1))

sort_field_within : (field : SortField) → IsWithin 1 (sort_field_json field)
unfolding sort_field_json
sort_field_within field =
    object_within 0 (put_within 0 key.TRANSFORM.now (text_within 0 (transform_text field.transform))
    (put_within 0 key.SOURCE_ID.now (number_within 0 field.source_id)
    (put_within 0 key.NULL_ORDER.now (text_within 0 (null_order_text field.null_order))
    (put_within 0 key.DIRECTION.now (text_within 0 (direction_text field.direction)) (empty_within 0)))))

sort_order_within : (order : SortOrder) → IsWithin 3 (sort_order_json order)
unfolding sort_order_json
sort_order_within order =
    object_within 2 (put_within 2 key.ORDER_ID.now (number_within 2 order.order_id)
    (put_within 2 key.FIELDS.now (list_within 1 sort_field_json sort_field_within order.fields) (empty_within 2)))

partition_field_within : (field : PartitionField) → IsWithin 1 (partition_field_json field)
unfolding partition_field_json
partition_field_within field =
    object_within 0 (put_within 0 key.TRANSFORM.now (text_within 0 (transform_text field.transform))
    (put_within 0 key.SOURCE_ID.now (number_within 0 field.source_id)
    (put_within 0 key.NAME.now (text_within 0 field.name)
    (put_within 0 key.FIELD_ID.now (number_within 0 field.field_id) (empty_within 0)))))

partition_spec_within : (spec : PartitionSpec) → IsWithin 3 (partition_spec_json spec)
unfolding partition_spec_json
partition_spec_within spec =
    object_within 2 (put_within 2 key.SPEC_ID.now (number_within 2 spec.spec_id)
    (put_within 2 key.FIELDS.now (list_within 1 partition_field_json partition_field_within spec.fields)
    (empty_within 2)))

snapshot_within : (snapshot : Snapshot) → IsWithin 2 (snapshot_json snapshot)
unfolding snapshot_json
snapshot_within snapshot =
    object_within 1 (put_within 1 key.TIMESTAMP_MS.now (number_within 1 snapshot.timestamp_ms)
    (put_within 1 key.SUMMARY.now (pairs_within snapshot.summary)
    (put_within 1 key.SNAPSHOT_ID.now (number_within 1 snapshot.snapshot_id)
    (put_within 1 key.SEQUENCE_NUMBER.now (number_within 1 snapshot.sequence_number)
    (put_number_within 1 key.SCHEMA_ID.now snapshot.schema_id
    (put_number_within 1 key.PARENT_SNAPSHOT_ID.now snapshot.parent_snapshot_id
    (put_within 1 key.MANIFEST_LIST.now (text_within 1 snapshot.manifest_list) (empty_within 1))))))))

metadata_log_entry_within : (entry : MetadataLogEntry) → IsWithin 1 (metadata_log_entry_json entry)
unfolding metadata_log_entry_json
metadata_log_entry_within entry =
    object_within 0 (put_within 0 key.TIMESTAMP_MS.now (number_within 0 entry.timestamp_ms)
    (put_within 0 key.METADATA_FILE.now (text_within 0 entry.metadata_file) (empty_within 0)))

snapshot_log_entry_within : (entry : SnapshotLogEntry) → IsWithin 1 (snapshot_log_entry_json entry)
unfolding snapshot_log_entry_json
snapshot_log_entry_within entry =
    object_within 0 (put_within 0 key.TIMESTAMP_MS.now (number_within 0 entry.timestamp_ms)
    (put_within 0 key.SNAPSHOT_ID.now (number_within 0 entry.snapshot_id) (empty_within 0)))

-- the types of columns
abbrev AreTreesWithin : ℕ → List Tree → Type 0
AreTreesWithin n [] = ⊤
AreTreesWithin n (tree ∷ trees) = IsWithin n tree.json × AreTreesWithin n trees

part_within : (n : ℕ) (part : Part) (id : ℕ) (json : Data) → IsWithin n json → IsWithin (n + 1) (part_json part id json)
part_within n (Field name required doc) id json within =
    object_within n (put_within n key.TYPE.now within (put_within n key.REQUIRED.now (truth_within n required)
    (put_within n key.NAME.now (text_within n name) (put_within n key.ID.now (number_within n id)
    (put_text_within n key.DOC.now doc (empty_within n))))))
part_within n (Element required) id json within = null_within (n + 1)
part_within n Key id json within = null_within (n + 1)
part_within n (Value required) id json within = null_within (n + 1)

field_within : (n : ℕ) (tree : Tree) → IsWithin n tree.json → IsWithin (n + 1) (field_json tree)
unfolding field_json
field_within n tree within = part_within n tree.column.part tree.column.id tree.json within

fields_most : (n : ℕ) (trees : List Tree) → AreTreesWithin n trees → items_depth (items_of (map field_json trees)) ≤ n + 1
fields_most n [] within = least (n + 1)
fields_most n (tree ∷ trees) within =
    both_most (depth (field_json tree)) (items_depth (items_of (map field_json trees))) (n + 1)
    (field_within n tree within.0).most (fields_most n trees within.1)

fields_within : (n : ℕ) (trees : List Tree) → AreTreesWithin n trees → IsWithin (n + 2) (list_json field_json trees)
fields_within n trees within =
    raise (n + 1 + 1) (n + 2) (omega arith)
    (record { most = outer (items_depth (items_of (map field_json trees))) (n + 1) (fields_most n trees within) })

struct_within : (n : ℕ) (trees : List Tree) → AreTreesWithin n trees → IsWithin (n + 3) (struct_json trees)
unfolding struct_json
struct_within n trees within =
    raise (n + 2 + 1) (n + 3) (omega arith)
    (object_within (n + 2) (put_within (n + 2) key.TYPE.now (text_within (n + 2) key.STRUCT.now)
    (put_within (n + 2) key.FIELDS.now (fields_within n trees within) (empty_within (n + 2)))))

element_within : (n : ℕ) (trees : List Tree) → AreTreesWithin n trees → IsWithin (n + 3) (list_of trees)
unfolding list_of
element_within n [] within = null_within (n + 3)
element_within n (element ∷ []) within =
    raise (n + 1) (n + 3) (omega arith)
    (object_within n (put_within n key.TYPE.now (text_within n key.LIST.now)
    (put_within n key.ELEMENT_REQUIRED.now (truth_within n (is_required element.column.part))
    (put_within n key.ELEMENT_ID.now (number_within n element.column.id)
    (put_within n key.ELEMENT.now within.0 (empty_within n))))))
element_within n (element ∷ next ∷ rest) within = null_within (n + 3)

pair_within : (n : ℕ) (trees : List Tree) → AreTreesWithin n trees → IsWithin (n + 3) (map_of trees)
unfolding map_of
pair_within n [] within = null_within (n + 3)
pair_within n (first ∷ []) within = null_within (n + 3)
pair_within n (first ∷ second ∷ []) within =
    raise (n + 1) (n + 3) (omega arith)
    (object_within n (put_within n key.TYPE.now (text_within n key.MAP.now)
    (put_within n key.VALUE_REQUIRED.now (truth_within n (is_required second.column.part))
    (put_within n key.VALUE_ID.now (number_within n second.column.id) (put_within n key.VALUE.now within.1.0
    (put_within n key.KEY_ID.now (number_within n first.column.id)
    (put_within n key.KEY.now within.0 (empty_within n))))))))
pair_within n (first ∷ second ∷ next ∷ rest) within = null_within (n + 3)

-- each level of types takes three of JSON, and columns stand in at most 32 others
abbrev AreShallow : List Tree → Type 0
AreShallow [] = ⊤
AreShallow (tree ∷ trees) = (depth tree.json + 3 * tree.column.depth ≤ 96) × AreShallow trees

word_shallow : (place : ℕ) → place + 0 ≤ 32 → 0 + 3 * place ≤ 96
word_shallow place low = omega (arith, low)

nested_shallow : (n place : ℕ) (d : Data) → n + 3 * place ≡ 93 → IsWithin (n + 3) d → depth d + 3 * place ≤ 96
nested_shallow n place d room within = omega (arith, room, within.most)

module _ (place : ℕ) (trees : List Tree) (inner : (n : ℕ) → n + 3 * place ≡ 93 → AreTreesWithin n trees) where
  left : place + 1 ≤ 32 → (93 - 3 * place) + 3 * place ≡ 93
  left low = omega arith

  kind_shallow : (of : Kind) → place + levels of ≤ 32 → depth (kind_json of trees) + 3 * place ≤ 96
  kind_shallow kind.Struct low =
      nested_shallow (93 - 3 * place) place (struct_json trees) (left low)
      (struct_within (93 - 3 * place) trees (inner (93 - 3 * place) (left low)))
  kind_shallow kind.List low =
      nested_shallow (93 - 3 * place) place (list_of trees) (left low)
      (element_within (93 - 3 * place) trees (inner (93 - 3 * place) (left low)))
  kind_shallow kind.Map low =
      nested_shallow (93 - 3 * place) place (map_of trees) (left low)
      (pair_within (93 - 3 * place) trees (inner (93 - 3 * place) (left low)))
  kind_shallow kind.Boolean low = word_shallow place low
  kind_shallow kind.Int low = word_shallow place low
  kind_shallow kind.Long low = word_shallow place low
  kind_shallow kind.Float low = word_shallow place low
  kind_shallow kind.Double low = word_shallow place low
  kind_shallow kind.Date low = word_shallow place low
  kind_shallow kind.Time low = word_shallow place low
  kind_shallow kind.Timestamp low = word_shallow place low
  kind_shallow kind.Timestamptz low = word_shallow place low
  kind_shallow kind.String low = word_shallow place low
  kind_shallow kind.Uuid low = word_shallow place low
  kind_shallow kind.Binary low = word_shallow place low
  kind_shallow (kind.Decimal precision scale) low = word_shallow place low
  kind_shallow (kind.Fixed size) low = word_shallow place low

inner_at : (place n : ℕ) (tree : Tree) (trees : List Tree) (deeper : Bool) → nat_lt place tree.column.depth ≡ deeper
    → n + 3 * place ≡ 93 → depth tree.json + 3 * tree.column.depth ≤ 96 → AreTreesWithin n trees
    → AreTreesWithin n (if deeper then tree ∷ trees else [])
inner_at place n tree trees true is room here rest =
    let below : place < tree.column.depth = ltb-true place tree.column.depth is in
    (record { most = omega (arith, room, here, below) }, rest)
inner_at place n tree trees false is room here rest = tt

inner_within : (place n : ℕ) (trees : List Tree) → n + 3 * place ≡ 93 → AreShallow trees
    → AreTreesWithin n (inner_of place trees)
inner_within place n [] room all = tt
inner_within place n (tree ∷ trees) room all =
    inner_at place n tree (inner_of place trees) (nat_lt place tree.column.depth) refl room all.0
    (inner_within place n trees room all.1)

either_shallow : (deeper : Bool) (first second : List Tree) → AreShallow first → AreShallow second
    → AreShallow (if deeper then first else second)
either_shallow true first second one other = one
either_shallow false first second one other = other

beside_shallow : (place : ℕ) (trees : List Tree) → AreShallow trees → AreShallow (beside_of place trees)
beside_shallow place [] all = tt
beside_shallow place (tree ∷ trees) all =
    either_shallow (nat_lt place tree.column.depth) (beside_of place trees) (tree ∷ trees)
    (beside_shallow place trees all.1) all

grown_shallow : (column : Column) (trees : List Tree) → IsColumn column → AreShallow trees
    → AreShallow (grown column trees)
unfolding grown
grown_shallow column trees good all = (
  kind_shallow column.depth (inner_of column.depth trees) (λ n room. inner_within column.depth n trees room all)
      column.kind good.depth,
  beside_shallow column.depth trees all,
)

trees_shallow : (columns : List Column) → All IsColumn columns → AreShallow (trees_of columns)
trees_shallow [] good = tt
trees_shallow (column ∷ columns) good =
    grown_shallow column (trees_of columns) (All-head IsColumn column columns good)
    (trees_shallow columns (All-tail IsColumn column columns good))

shallow_within : (trees : List Tree) → AreShallow trees → AreTreesWithin 96 trees
shallow_within [] all = tt
shallow_within (tree ∷ trees) all = (record { most = omega (arith, all.0) }, shallow_within trees all.1)

ids_within : (ids : List ℕ) {ms : Members} → AreWithin 98 ms → AreWithin 98 (put_ids ids ms)
ids_within ids {ms} rest = by (length ids == 0)
  where
    by : (b : Bool) → AreWithin 98 (if b then ms else put key.IDENTIFIER_FIELD_IDS.now (list_json number_json ids) ms)
    by true = rest
    by false =
        put_within 98 key.IDENTIFIER_FIELD_IDS.now
        (raise 1 98 (omega arith) (list_within 0 number_json (number_within 0) ids)) rest

pub schema_within : (schema : Schema) → IsSchema schema → IsWithin 99 (schema_json schema)
unfolding schema_json
schema_within schema form =
    object_within 98 (put_within 98 key.TYPE.now (text_within 98 key.STRUCT.now)
    (put_within 98 key.SCHEMA_ID.now (number_within 98 schema.schema_id) (ids_within schema.identifier_field_ids
    (put_within 98 key.FIELDS.now
    (fields_within 96 (trees_of schema.fields)
    (shallow_within (trees_of schema.fields) (trees_shallow schema.fields form.columns))) (empty_within 98)))))

-- a whole metadata
table_put : (meta : TableMetadata) {ms : Members} → AreWithin 100 ms → AreWithin 100 (put_table meta ms)
unfolding put_table
table_put meta rest =
    put_within 100 key.TABLE_UUID.now (text_within 100 (hyphenated_text lower meta.table_uuid))
    (put_within 100 key.PROPERTIES.now (raise 1 100 (omega arith) (pairs_within meta.properties)) rest)

snapshots_put : (meta : TableMetadata) {ms : Members} → AreWithin 100 ms → AreWithin 100 (put_snapshots meta ms)
unfolding put_snapshots
snapshots_put meta rest =
    put_within 100 key.SNAPSHOTS.now
    (raise 3 100 (omega arith) (list_within 2 snapshot_json snapshot_within meta.snapshots))
    (put_within 100 key.SNAPSHOT_LOG.now
    (raise 2 100 (omega arith) (list_within 1 snapshot_log_entry_json snapshot_log_entry_within meta.snapshot_log))
    (put_within 100 key.REFS.now (raise 2 100 (omega arith) (refs_within meta.refs)) rest))

shapes_put : (meta : TableMetadata) {ms : Members} → All IsSchema meta.schemas → AreWithin 100 ms
    → AreWithin 100 (put_shapes meta ms)
unfolding put_shapes
shapes_put meta schemas rest =
    put_within 100 key.SORT_ORDERS.now
    (raise 4 100 (omega arith) (list_within 3 sort_order_json sort_order_within meta.sort_orders))
    (put_within 100 key.SCHEMAS.now (list_of_within 99 schema_json IsSchema schema_within meta.schemas schemas)
    (put_within 100 key.PARTITION_SPECS.now
    (raise 4 100 (omega arith) (list_within 3 partition_spec_json partition_spec_within meta.partition_specs)) rest))

current_put : (meta : TableMetadata) {ms : Members} → AreWithin 100 ms → AreWithin 100 (put_current meta ms)
unfolding put_current
current_put meta rest =
    put_within 100 key.DEFAULT_SPEC_ID.now (number_within 100 meta.default_spec_id)
    (put_within 100 key.DEFAULT_SORT_ORDER_ID.now (number_within 100 meta.default_sort_order_id)
    (put_number_within 100 key.CURRENT_SNAPSHOT_ID.now meta.current_snapshot_id
    (put_within 100 key.CURRENT_SCHEMA_ID.now (number_within 100 meta.current_schema_id) rest)))

numbers_put : (meta : TableMetadata) {ms : Members} → AreWithin 100 ms → AreWithin 100 (put_numbers meta ms)
unfolding put_numbers
numbers_put meta rest =
    put_within 100 key.LAST_UPDATED_MS.now (number_within 100 meta.last_updated_ms)
    (put_within 100 key.LAST_SEQUENCE_NUMBER.now (number_within 100 meta.last_sequence_number)
    (put_within 100 key.LAST_PARTITION_ID.now (number_within 100 meta.last_partition_id)
    (put_within 100 key.LAST_COLUMN_ID.now (number_within 100 meta.last_column_id)
    (put_within 100 key.FORMAT_VERSION.now (number_within 100 meta.format_version) rest))))

table_within : (meta : TableMetadata) → All IsSchema meta.schemas → IsWithin 101 (table_json meta)
unfolding table_json
table_within meta schemas =
    object_within 100 (shapes_put meta schemas (snapshots_put meta (table_put meta
    (put_within 100 key.METADATA_LOG.now
    (raise 2 100 (omega arith) (list_within 1 metadata_log_entry_json metadata_log_entry_within meta.metadata_log))
    (numbers_put meta (current_put meta
    (put_within 100 key.LOCATION.now (text_within 100 meta.location) (empty_within 100))))))))

pub table_nests : (meta : TableMetadata) → HasForms meta → depth (table_json meta) ≤ 127
table_nests meta forms = omega (arith, (table_within meta forms.schemas).most)
