-- What metadata are read as has the forms that valid metadata ask for.
use Rattle.std.proofs.Common.{◌≡◌, ◌≤◌, ℕ, List, [], ◌∷◌, codes, Option, Some, None, IfSome, IfOk, Result, Ok, Err, refl, sym, subst, arith, inl, inr}
use Rattle.std.specs.Cmp.Lexicographic.{slice_cmp}
use Rattle.std.specs.List.{All}
use Rattle.std.specs.List.Sorted.{IsStrictlySortedBy}
use Rattle.std.specs.Ordering.{nat_cmp}
use Rattle.std.proofs.lemmas.List.Elements.{All-cons, All-map, All-nil}
use Rattle.serde_json.specs.Data.{Data, Items, Members, no_items, item, no_members, member}
use Rattle.serde_json.specs.Find.{get}
use Rattle.pol_properties.specs.Properties.{value_of}
use Rattle.pol_properties.specs.declared.property.Property.{Property}
use Rattle.pol_meta.specs.Valid.{HasForms, IsColumnId, IsId, IsKept, IsLong, IsMetadataLogEntry, IsNamedRef, IsOperation, IsPartitionField, IsPartitionSpec, IsSchema, IsSnapshot, IsSnapshotLogEntry, IsSortField, IsSortOrder}
use Rattle.pol_meta.specs.declared.log.MetadataLogEntry.{MetadataLogEntry}
use Rattle.pol_meta.specs.declared.log.SnapshotLogEntry.{SnapshotLogEntry}
use Rattle.pol_meta.specs.declared.metadata.TableMetadata.{TableMetadata}
use Rattle.pol_meta.specs.declared.partition.PartitionField.{PartitionField}
use Rattle.pol_meta.specs.declared.partition.PartitionSpec.{PartitionSpec}
use Rattle.pol_meta.specs.declared.reference.NamedRef.{NamedRef}
use Rattle.pol_meta.specs.declared.reference.SnapshotRef.{SnapshotRef}
use Rattle.pol_meta.specs.declared.schema.Schema.{Schema}
use Rattle.pol_meta.specs.declared.snapshot.Snapshot.{Snapshot}
use Rattle.pol_meta.specs.declared.sort.SortField.{SortField}
use Rattle.pol_meta.specs.declared.sort.SortOrder.{SortOrder}
use Rattle.pol_readers.specs.Exactness.{bodies_exact}
use Rattle.pol_readers.specs.Forms.{body}
use Rattle.pol_readers.specs.Grammar.{AreItems, AreMembers, HasField, IsList, IsWhole, MayHaveField, Means}
use Rattle.pol_readers.specs.Reading.{Gives}
use Rattle.pol_readers.specs.declared.error.ReadError.{ReadError}
use Rattle.pol_metajson.specs.Order.{sort_field}
use Rattle.pol_metajson.specs.Table.{text_map}
use Rattle.pol_metajson.proofs.FormLemmas.{schema_formed}
use Rattle.pol_metajson.proofs.RequestLemmas.{partition_field_formed, sort_field_formed}
use Rattle.pol_metakeys.specs.declared.keys.TheConstants as key
use Rattle.pol_metaread.specs.Metadata.{current, described, listing, numbers, table_metadata}
use Rattle.pol_metaread.specs.Numbered.{numbered_schema, partition_field, partition_spec, sort_order}
use Rattle.pol_metaread.specs.Snapshot.{made, metadata_log_entry, named_of, operation, operations, reference, refs, snapshot, snapshot_log_entry}
use Rattle.pol_metaread.specs.declared.metadata.Current.{Current}
use Rattle.pol_metaread.specs.declared.metadata.Described.{Described}
use Rattle.pol_metaread.specs.declared.metadata.Listing.{Listing}
use Rattle.pol_metaread.specs.declared.metadata.Numbers.{Numbers}
use Rattle.pol_metaread.specs.declared.snapshot.Made.{Made}
use Rattle.pol_metaread.specs.declared.snapshot.Operation.{Operation}
use Rattle.pol_metaread.proofs.OrderLemmas.{AreOrdered, IsOrdered, held_ordered, made_rise, read_ordered}
use Rattle.pol_metaread.proofs.PairLemmas.{text_held}

-- what holds of each member of a list holds of all
items_hold : {A : Type 0} (P : A → Type 0) (grammar : Data → A → Type 0)
    → ((d : Data) (value : A) → IsOrdered d → grammar d value → P value)
    → (ds : Items) (values : List A) → AreOrdered ds → AreItems grammar ds values → All P values
items_hold P grammar each no_items [] ordered so = All-nil P
items_hold P grammar each no_items (value ∷ values) ordered so = absurd so
items_hold P grammar each (item d ds) [] ordered so = absurd so
items_hold P grammar each (item d ds) (value ∷ values) ordered so =
    All-cons P value values (each d value ordered.0 so.0) (items_hold P grammar each ds values ordered.1 so.1)

pub list_holds : {A : Type 0} (P : A → Type 0) (grammar : Data → A → Type 0)
    → ((d : Data) (value : A) → IsOrdered d → grammar d value → P value)
    → (name : List ℕ) (d : Data) (values : List A) → IsOrdered d → HasField name (IsList grammar) d values
    → All P values
list_holds P grammar each name d values ordered so =
    let held = held_ordered name d so.0 ordered so.1 in
    items_hold P grammar each so.2.0 values (subst IsOrdered so.2.1 held) so.2.2

-- numbers, there or absent
pub is_long : (n : ℕ) → n ≤ 9223372036854775807 → IsLong n
is_long n most = omega (arith, most)

given_long : (name : List ℕ) (d : Data) (given : Option ℕ) → MayHaveField name (IsWhole 0 9223372036854775807) d given
    → IfSome given IsLong
given_long name d None so = tt
given_long name d (Some n) so = is_long n so.3.2

given_id : (name : List ℕ) (d : Data) (given : Option ℕ) → MayHaveField name (IsWhole 0 2147483647) d given
    → IfSome given IsId
given_id name d None so = tt
given_id name d (Some n) so = so.3.2

given_kept : (name : List ℕ) (d : Data) (given : Option ℕ) → MayHaveField name (IsWhole 1 9223372036854775807) d given
    → IfSome given IsKept
given_kept name d None so = tt
given_kept name d (Some n) so = record { least = so.3.1; most = is_long n so.3.2 }

-- schemas, specs and orders
pub schema_holds : (d : Data) (value : Schema) → IsOrdered d → numbered_schema.stands d value → IsSchema value
unfolding numbered_schema
schema_holds d value ordered so =
    let form = schema_formed d so.0 so.1 in
    subst IsSchema (sym so.2.2)
    (record {
      id = so.2.1.2.2;
      columns = form.columns;
      nested = form.nested;
      differ = form.differ;
      identified = form.identified;
    })

partition_field_holds : (d : Data) (value : PartitionField) → IsOrdered d → partition_field.stands d value
    → IsPartitionField value
unfolding partition_field
partition_field_holds d value ordered so =
    let form = partition_field_formed d so.0 so.1 in
    subst IsPartitionField (sym so.2.2)
    (record {
      source = form.source;
      id = record { least = so.2.1.2.1; most = so.2.1.2.2 };
      transform = form.transform;
    })

spec_holds : (d : Data) (value : PartitionSpec) → IsOrdered d → partition_spec.stands d value → IsPartitionSpec value
unfolding partition_spec
spec_holds d value ordered so =
    subst IsPartitionSpec (sym so.2.2.2)
    (record {
      id = so.2.1.2.2;
      fields = list_holds IsPartitionField partition_field.stands partition_field_holds key.FIELDS.now d so.2.2.0 ordered
          so.2.2.1;
    })

pub sort_field_holds : (d : Data) (value : SortField) → IsOrdered d → sort_field.stands d value → IsSortField value
sort_field_holds d value ordered so = sort_field_formed d value so

order_holds : (d : Data) (value : SortOrder) → IsOrdered d → sort_order.stands d value → IsSortOrder value
unfolding sort_order
order_holds d value ordered so =
    subst IsSortOrder (sym so.2.2.2)
    (record {
      id = so.2.1.2.2;
      fields = list_holds IsSortField sort_field.stands sort_field_holds key.FIELDS.now d so.2.2.0 ordered so.2.2.1;
    })

-- one of the texts about a snapshot says how it was made
means_operation : (word : List ℕ) (found : Operation) → Means operations word found → IsOperation word
means_operation word found (inl is) = inl (sym is.0)
means_operation word found (inr (other, inl is)) = inr (inl (sym is.0))
means_operation word found (inr (other, inr (next, inl is))) = inr (inr (inl (sym is.0)))
means_operation word found (inr (other, inr (next, inr (last, inl is)))) = inr (inr (inr (sym is.0)))
means_operation word found (inr (other, inr (next, inr (last, inr nothing)))) = absurd nothing.1

TellsOperation : List Property → Type 0
TellsOperation pairs = (word : List ℕ) × (value_of (codes "operation") pairs ≡ Some word) × IsOperation word

operation_told : (d : Data) (pairs : List Property) (found : Made) → IsOrdered d → text_map.stands d pairs
    → made.stands d found → TellsOperation pairs
unfolding made operation TellsOperation
operation_told d pairs found ordered texts so =
    let held = so.1 in
    let word = held.2.0 in
    let there = subst (λ one. get key.OPERATION.now d ≡ Some one) held.2.1 held.1 in
    (word, text_held key.OPERATION.now d pairs word ordered texts there, means_operation word so.0 held.2.2)

same_held : (first second : Data) (o : Option Data) → o ≡ Some first → o ≡ Some second → second ≡ first
same_held first second o one other = cc

pub snapshot_holds : (d : Data) (value : Snapshot) → IsOrdered d → snapshot.stands d value → IsSnapshot value
unfolding snapshot TellsOperation
snapshot_holds d value ordered so =
    let named = so.2 in
    let parent = named.2 in
    let sequence = parent.2 in
    let moment = sequence.2 in
    let files = moment.2 in
    let texts = files.2 in
    let told = texts.2 in
    let written = told.2 in
    let summary = held_ordered key.SUMMARY.now d texts.1.0 ordered texts.1.1 in
    let same = same_held texts.1.0 told.1.0 (get key.SUMMARY.now d) texts.1.1 told.1.1 in
    let operation = operation_told texts.1.0 texts.0 told.0 summary texts.1.2
    (subst (λ held. made.stands held told.0) same told.1.2) in
    subst IsSnapshot (sym written.2)
    (record {
      id = is_long named.0 named.1.2.2;
      parent = given_long key.PARENT_SNAPSHOT_ID.now d parent.0 parent.1;
      sequence = is_long sequence.0 sequence.1.2.2;
      time = is_long moment.0 moment.1.2.2;
      operation = operation;
      schema = given_id key.SCHEMA_ID.now d written.0 written.1;
    })

-- references under their names
pub reference_holds : (name : List ℕ) (d : Data) (value : SnapshotRef) → reference.stands d value
    → IsNamedRef (record { name = name; reference = value })
unfolding reference
reference_holds name d value so =
    let named = so.2.2 in
    let age = named.2 in
    let snapshot_age = age.2 in
    let count = snapshot_age.2 in
    subst (λ (other : SnapshotRef). IsNamedRef (record { name = name; reference = other })) (sym count.2)
    (record {
      snapshot = is_long named.0 named.1.2.2;
      age = given_kept key.MAX_REF_AGE_MS.now d age.0 age.1;
      snapshot_age = given_kept key.MAX_SNAPSHOT_AGE_MS.now d snapshot_age.0 snapshot_age.1;
      snapshots = given_kept key.MIN_SNAPSHOTS_TO_KEEP.now d count.0 count.1;
    })

entries_hold : (ms : Members) (entries : List (List ℕ × SnapshotRef)) → AreMembers reference.stands ms entries
    → All (λ (entry : List ℕ × SnapshotRef). IsNamedRef (named_of entry)) entries
entries_hold no_members [] so = All-nil _
entries_hold no_members (entry ∷ entries) so = absurd so
entries_hold (member name d ms) [] so = absurd so
entries_hold (member name d ms) (entry ∷ entries) so =
    All-cons (λ (entry : List ℕ × SnapshotRef). IsNamedRef (named_of entry)) entry entries (reference_holds entry.0 d entry.1 so.1)
    (entries_hold ms entries so.2)

record AreRefs (named : List NamedRef) : Type 0 where
  forms : All IsNamedRef named
  ordered : IsStrictlySortedBy (λ left right. slice_cmp nat_cmp left.name right.name) named

refs_hold : (d : Data) (named : List NamedRef) → IsOrdered d → refs.stands d named → AreRefs named
unfolding refs
refs_hold d named ordered so =
    let ms = so.1.0 in
    let order = subst IsOrdered so.1.1 ordered in
    subst AreRefs (sym so.2)
    (record {
      forms = All-map IsNamedRef named_of so.0 (entries_hold ms so.0 so.1.2);
      ordered = made_rise reference.stands named_of (λ (one : NamedRef). one.name) (λ entry. refl) ms so.0 order.0 so.1.2;
    })

-- both logs
metadata_log_holds : (d : Data) (value : MetadataLogEntry) → IsOrdered d → metadata_log_entry.stands d value
    → IsMetadataLogEntry value
unfolding metadata_log_entry
metadata_log_holds d value ordered so =
    let moment = so.2.2 in
    subst IsMetadataLogEntry (sym moment.2) (is_long moment.0 moment.1.2.2)

snapshot_log_holds : (d : Data) (value : SnapshotLogEntry) → IsOrdered d → snapshot_log_entry.stands d value
    → IsSnapshotLogEntry value
unfolding snapshot_log_entry
snapshot_log_holds d value ordered so =
    let named = so.2 in
    let moment = named.2 in
    subst IsSnapshotLogEntry (sym moment.2)
    (record { snapshot = is_long named.0 named.1.2.2; time = is_long moment.0 moment.1.2.2 })

exactly : (n : ℕ) → 2 ≤ n → n ≤ 2 → n ≡ 2
exactly n least most = omega (arith, least, most)

-- the parts of a metadata
record AreCurrent (value : Current) : Type 0 where
  schema : IsId value.schema
  shown : IfSome value.snapshot IsLong
  order : IsId value.order
  spec : IsId value.spec

current_holds : (d : Data) (value : Current) → current.stands d value → AreCurrent value
unfolding current
current_holds d value so =
    let shown = so.2 in
    let order = shown.2 in
    let spec = order.2 in
    subst AreCurrent (sym spec.2)
    (record {
      schema = so.1.2.2;
      shown = given_long key.CURRENT_SNAPSHOT_ID.now d shown.0 shown.1;
      order = order.1.2.2;
      spec = spec.1.2.2;
    })

record AreNumbers (value : Numbers) : Type 0 where
  version : value.version ≡ 2
  column : IsColumnId value.column
  partition_least : 999 ≤ value.partition
  partition_most : IsId value.partition
  sequence : IsLong value.sequence
  updated : IsLong value.updated

numbers_hold : (d : Data) (value : Numbers) → numbers.stands d value → AreNumbers value
unfolding numbers
numbers_hold d value so =
    let column = so.2 in
    let partition = column.2 in
    let sequence = partition.2 in
    let updated = sequence.2 in
    subst AreNumbers (sym updated.2)
    (record {
      version = exactly so.0 so.1.2.1 so.1.2.2;
      column = column.1.2.2;
      partition_least = partition.1.2.1;
      partition_most = partition.1.2.2;
      sequence = is_long sequence.0 sequence.1.2.2;
      updated = is_long updated.0 updated.1.2.2;
    })

record AreDescribed (value : Described) : Type 0 where
  metadata_log : All IsMetadataLogEntry value.metadata_log
  specs : All IsPartitionSpec value.partition_specs

described_holds : (d : Data) (value : Described) → IsOrdered d → described.stands d value → AreDescribed value
unfolding described
described_holds d value ordered so =
    let log = so.2 in
    let specs = log.2 in
    let properties = specs.2 in
    subst AreDescribed (sym properties.2)
    (record {
      metadata_log = list_holds IsMetadataLogEntry metadata_log_entry.stands metadata_log_holds key.METADATA_LOG.now d
          log.0 ordered log.1;
      specs = list_holds IsPartitionSpec partition_spec.stands spec_holds key.PARTITION_SPECS.now d specs.0 ordered
          specs.1;
    })

record AreListed (value : Listing) : Type 0 where
  named : AreRefs value.refs
  schemas : All IsSchema value.schemas
  log : All IsSnapshotLogEntry value.snapshot_log
  snapshots : All IsSnapshot value.snapshots

listing_holds : (d : Data) (value : Listing) → IsOrdered d → listing.stands d value → AreListed value
unfolding listing
listing_holds d value ordered so =
    let schemas = so.2 in
    let log = schemas.2 in
    let snapshots = log.2 in
    let inner = held_ordered key.REFS.now d so.1.0 ordered so.1.1 in
    subst AreListed (sym snapshots.2)
    (record {
      named = refs_hold so.1.0 so.0 inner so.1.2;
      schemas = list_holds IsSchema numbered_schema.stands schema_holds key.SCHEMAS.now d schemas.0 ordered schemas.1;
      log = list_holds IsSnapshotLogEntry snapshot_log_entry.stands snapshot_log_holds key.SNAPSHOT_LOG.now d
          log.0 ordered log.1;
      snapshots = list_holds IsSnapshot snapshot.stands snapshot_holds key.SNAPSHOTS.now d snapshots.0 ordered
          snapshots.1;
    })

-- a whole metadata
table_holds : (d : Data) (meta : TableMetadata) → IsOrdered d → table_metadata.stands d meta → HasForms meta
unfolding table_metadata
table_holds d meta ordered so =
    let shown = so.2 in
    let last = shown.2 in
    let told = last.2 in
    let held = told.2 in
    let orders = held.2 in
    let named = orders.2 in
    let currents = current_holds d shown.0 shown.1 in
    let counted = numbers_hold d last.0 last.1 in
    let places = described_holds d told.0 ordered told.1 in
    let lists = listing_holds d held.0 ordered held.1 in
    subst HasForms (sym named.2)
    (record {
      version = counted.version;
      current_schema = currents.schema;
      current_snapshot = currents.shown;
      default_order = currents.order;
      default_spec = currents.spec;
      schemas = lists.schemas;
      specs = places.specs;
      orders = list_holds IsSortOrder sort_order.stands order_holds key.SORT_ORDERS.now d orders.0 ordered orders.1;
      snapshots = lists.snapshots;
      refs = lists.named.forms;
      ordered = lists.named.ordered;
      metadata_log = places.metadata_log;
      snapshot_log = lists.log;
      column = counted.column;
      partition_least = counted.partition_least;
      partition_most = counted.partition_most;
      sequence = counted.sequence;
      updated = counted.updated;
    })

-- what is read of a text has its forms
pub body_holds : (text : List ℕ) (outcome : Result TableMetadata ReadError)
    → Gives outcome (body table_metadata.read text) → IfOk outcome HasForms
body_holds text (Ok meta) is =
    let so = (bodies_exact table_metadata.exact).sound text meta is in
    table_holds so.0 meta (read_ordered text so.0 so.2) so.4
body_holds text (Err error) is = tt
