-- Which metadata are valid: each part has a form of the Iceberg table spec, and what its ids name is there.
use Rattle.std.specs.Prelude.{◌≡◌, ◌+◌, ◌≤◌, ◌<◌, ◌^◌, ◌⊎◌, ℕ, true, List, map, codes, All, Contains, IfSome, nat_eq, Option, Some, option_map}
use Rattle.std.specs.Bool.{⊤}
use Rattle.std.specs.Cmp.Lexicographic.{slice_cmp}
use Rattle.std.specs.List.{IsDistinct, find}
use Rattle.std.specs.List.Sorted.{IsStrictlySortedBy}
use Rattle.std.specs.Ordering.{nat_cmp}
use Rattle.std.specs.Str.{bytes_eq}
use Rattle.pol_properties.specs.Properties.{value_of}
use Rattle.pol_meta.specs.Columns.{IsNested, column_ids, has_field}
use Rattle.pol_meta.specs.declared.column.Column.{Column}
use Rattle.pol_meta.specs.declared.column.Kind.{Kind}
use Rattle.pol_meta.specs.declared.column.Kind.TheVariants as kind
use Rattle.pol_meta.specs.declared.log.MetadataLogEntry.{MetadataLogEntry}
use Rattle.pol_meta.specs.declared.log.SnapshotLogEntry.{SnapshotLogEntry}
use Rattle.pol_meta.specs.declared.metadata.TableMetadata.{TableMetadata}
use Rattle.pol_meta.specs.declared.partition.PartitionField.{PartitionField}
use Rattle.pol_meta.specs.declared.partition.PartitionSpec.{PartitionSpec}
use Rattle.pol_meta.specs.declared.partition.UnboundField.{UnboundField}
use Rattle.pol_meta.specs.declared.reference.NamedRef.{NamedRef}
use Rattle.pol_meta.specs.declared.schema.Schema.{Schema}
use Rattle.pol_meta.specs.declared.snapshot.Snapshot.{Snapshot}
use Rattle.pol_meta.specs.declared.sort.SortField.{SortField}
use Rattle.pol_meta.specs.declared.sort.SortOrder.{SortOrder}
use Rattle.pol_meta.specs.declared.transform.Transform.{Transform}
use Rattle.pol_meta.specs.declared.transform.Transform.TheVariants.{Identity, Void, Year, Month, Day, Hour, Bucket, Truncate}

-- ids of columns: those above are the spec's own
abbrev pub IsColumnId : ℕ → Type 0
IsColumnId id = id ≤ 2147483447

-- ids of schemas, specs and orders
abbrev pub IsId : ℕ → Type 0
IsId id = id ≤ 2147483647

-- ids of partition fields
pub record IsFieldId (id : ℕ) : Type 0 where
  pub least : 1000 ≤ id
  pub most : IsId id

-- ids of snapshots, sequence numbers and times
abbrev pub IsLong : ℕ → Type 0
IsLong number = number < 2 ^ 63

-- numbers of buckets, widths and lengths
pub record IsSize (number : ℕ) : Type 0 where
  pub least : 1 ≤ number
  pub most : number ≤ 2147483647

-- what is to be kept of a reference
pub record IsKept (number : ℕ) : Type 0 where
  pub least : 1 ≤ number
  pub most : IsLong number

pub record IsDecimal (precision scale : ℕ) : Type 0 where
  pub least : 1 ≤ precision
  pub most : precision ≤ 38
  pub scaled : scale ≤ precision

abbrev pub IsKind : Kind → Type 0
IsKind (kind.Decimal precision scale) = IsDecimal precision scale
IsKind (kind.Fixed length) = IsSize length
IsKind kind.Boolean = ⊤
IsKind kind.Int = ⊤
IsKind kind.Long = ⊤
IsKind kind.Float = ⊤
IsKind kind.Double = ⊤
IsKind kind.Date = ⊤
IsKind kind.Time = ⊤
IsKind kind.Timestamp = ⊤
IsKind kind.Timestamptz = ⊤
IsKind kind.String = ⊤
IsKind kind.Uuid = ⊤
IsKind kind.Binary = ⊤
IsKind kind.Struct = ⊤
IsKind kind.List = ⊤
IsKind kind.Map = ⊤

abbrev pub IsTransform : Transform → Type 0
IsTransform (Bucket buckets) = IsSize buckets
IsTransform (Truncate width) = IsSize width
IsTransform Identity = ⊤
IsTransform Void = ⊤
IsTransform Year = ⊤
IsTransform Month = ⊤
IsTransform Day = ⊤
IsTransform Hour = ⊤

-- a type in which columns stand is one level more, even where none does
abbrev pub levels : Kind → ℕ
levels kind.Struct = 1
levels kind.List = 1
levels kind.Map = 1
levels kind.Boolean = 0
levels kind.Int = 0
levels kind.Long = 0
levels kind.Float = 0
levels kind.Double = 0
levels kind.Date = 0
levels kind.Time = 0
levels kind.Timestamp = 0
levels kind.Timestamptz = 0
levels kind.String = 0
levels kind.Uuid = 0
levels kind.Binary = 0
levels (kind.Decimal precision scale) = 0
levels (kind.Fixed length) = 0

-- a column whose type is at most 32 levels deep, with those in which it stands
pub record IsColumn (column : Column) : Type 0 where
  pub depth : column.depth + levels column.kind ≤ 32
  pub id : IsColumnId column.id
  pub kind : IsKind column.kind

-- a schema: columns with ids that differ, some of whose fields tell rows apart
pub record IsSchema (schema : Schema) : Type 0 where
  pub id : IsId schema.schema_id
  pub columns : All IsColumn schema.fields
  pub nested : IsNested schema.fields
  pub differ : IsDistinct nat_eq (column_ids schema.fields)
  pub identified : All (λ id. has_field schema.fields id ≡ true) schema.identifier_field_ids

pub record IsPartitionField (field : PartitionField) : Type 0 where
  pub source : IsColumnId field.source_id
  pub id : IsFieldId field.field_id
  pub transform : IsTransform field.transform

pub record IsPartitionSpec (spec : PartitionSpec) : Type 0 where
  pub id : IsId spec.spec_id
  pub fields : All IsPartitionField spec.fields

-- a field that is asked for, with its id or without
pub record IsUnboundField (field : UnboundField) : Type 0 where
  pub source : IsColumnId field.source_id
  pub id : IfSome field.field_id IsFieldId
  pub transform : IsTransform field.transform

pub record IsSortField (field : SortField) : Type 0 where
  pub source : IsColumnId field.source_id
  pub transform : IsTransform field.transform

pub record IsSortOrder (order : SortOrder) : Type 0 where
  pub id : IsId order.order_id
  pub fields : All IsSortField order.fields

-- the operations that make a snapshot
abbrev pub IsOperation : List ℕ → Type 0
IsOperation word =
    (word ≡ codes "append") ⊎ ((word ≡ codes "replace") ⊎ ((word ≡ codes "overwrite") ⊎ (word ≡ codes "delete")))

pub record IsSnapshot (snapshot : Snapshot) : Type 0 where
  pub id : IsLong snapshot.snapshot_id
  pub parent : IfSome snapshot.parent_snapshot_id IsLong
  pub sequence : IsLong snapshot.sequence_number
  pub time : IsLong snapshot.timestamp_ms
  pub operation : (word : List ℕ) × (value_of (codes "operation") snapshot.summary ≡ Some word) × IsOperation word
  pub schema : IfSome snapshot.schema_id IsId

pub record IsNamedRef (named : NamedRef) : Type 0 where
  pub snapshot : IsLong named.reference.snapshot_id
  pub age : IfSome named.reference.max_ref_age_ms IsKept
  pub snapshot_age : IfSome named.reference.max_snapshot_age_ms IsKept
  pub snapshots : IfSome named.reference.min_snapshots_to_keep IsKept

abbrev pub IsMetadataLogEntry : MetadataLogEntry → Type 0
IsMetadataLogEntry entry = IsLong entry.timestamp_ms

pub record IsSnapshotLogEntry (entry : SnapshotLogEntry) : Type 0 where
  pub snapshot : IsLong entry.snapshot_id
  pub time : IsLong entry.timestamp_ms

-- what the members of a metadata are known by
abbrev pub schema_ids : List Schema → List ℕ
schema_ids schemas = map (λ schema. schema.schema_id) schemas

abbrev pub spec_ids : List PartitionSpec → List ℕ
spec_ids specs = map (λ spec. spec.spec_id) specs

abbrev pub order_ids : List SortOrder → List ℕ
order_ids orders = map (λ order. order.order_id) orders

abbrev pub snapshot_ids : List Snapshot → List ℕ
snapshot_ids snapshots = map (λ snapshot. snapshot.snapshot_id) snapshots

-- the snapshot that a reference names
abbrev pub snapshot_named : List ℕ → List NamedRef → Option ℕ
snapshot_named name refs = option_map (λ named. named.reference.snapshot_id) (find (λ named. bytes_eq named.name name) refs)

-- each part of a metadata has its form, and references stand in byte order of their names
pub record HasForms (meta : TableMetadata) : Type 0 where
  pub version : meta.format_version ≡ 2
  pub current_schema : IsId meta.current_schema_id
  pub current_snapshot : IfSome meta.current_snapshot_id IsLong
  pub default_order : IsId meta.default_sort_order_id
  pub default_spec : IsId meta.default_spec_id
  pub schemas : All IsSchema meta.schemas
  pub specs : All IsPartitionSpec meta.partition_specs
  pub orders : All IsSortOrder meta.sort_orders
  pub snapshots : All IsSnapshot meta.snapshots
  pub refs : All IsNamedRef meta.refs
  pub ordered : IsStrictlySortedBy (λ left right. slice_cmp nat_cmp left.name right.name) meta.refs
  pub metadata_log : All IsMetadataLogEntry meta.metadata_log
  pub snapshot_log : All IsSnapshotLogEntry meta.snapshot_log
  pub column : IsColumnId meta.last_column_id
  pub partition_least : 999 ≤ meta.last_partition_id
  pub partition_most : IsId meta.last_partition_id
  pub sequence : IsLong meta.last_sequence_number
  pub updated : IsLong meta.last_updated_ms

-- the members of each kind have ids of their own
pub record HasOwnIds (meta : TableMetadata) : Type 0 where
  pub schemas : IsDistinct nat_eq (schema_ids meta.schemas)
  pub specs : IsDistinct nat_eq (spec_ids meta.partition_specs)
  pub orders : IsDistinct nat_eq (order_ids meta.sort_orders)
  pub snapshots : IsDistinct nat_eq (snapshot_ids meta.snapshots)

-- what is named is there, and the current snapshot is that of the reference `main`
pub record NamesMembers (meta : TableMetadata) : Type 0 where
  pub schema : Contains (schema_ids meta.schemas) meta.current_schema_id
  pub spec : Contains (spec_ids meta.partition_specs) meta.default_spec_id
  pub order : Contains (order_ids meta.sort_orders) meta.default_sort_order_id
  pub refs : All (λ named. Contains (snapshot_ids meta.snapshots) named.reference.snapshot_id) meta.refs
  pub current : meta.current_snapshot_id ≡ snapshot_named (codes "main") meta.refs

pub record IsValid (meta : TableMetadata) : Type 0 where
  pub forms : HasForms meta
  pub ids : HasOwnIds meta
  pub members : NamesMembers meta
