-- The forms of the parts of a metadata but its schemas: each is its fields, in the order of the Iceberg table spec's
-- listing as the types of `pol_meta` have it.
use Rattle.std.specs.Prelude.{◌≡◌, ◌||◌, ℕ, Bool, true, false, nat_eq, codes, List, [], ◌∷◌, ◌++◌, IfSome, Option, Some, None, ⊤, refl}
use Rattle.std.specs.Cmp.Lexicographic.{nat_list_eq_equiv, pointwise, same_text}
use Rattle.std.proofs.Common.{ap, sym, ◌∙◌, inl, inr}
use Rattle.std.proofs.lemmas.Bool.{or_cases}
use Rattle.pol_forms.specs.Enums.{Variant, Written, case_of, enum, enum_read, made_read_back, optional, written_as}
use Rattle.pol_forms.specs.Form.{Form}
use Rattle.pol_forms.specs.Forms.{list, mapped, no_fields, ruled, text, ◌&◌}
use Rattle.pol_forms.specs.Names.{properties}
use Rattle.pol_properties.specs.Properties.{value_of}
use Rattle.pol_meta.specs.Valid.{IsKept, IsLong, IsOperation}
use Rattle.pol_meta.specs.declared.log.MetadataLogEntry.{MetadataLogEntry}
use Rattle.pol_meta.specs.declared.log.SnapshotLogEntry.{SnapshotLogEntry}
use Rattle.pol_meta.specs.declared.partition.PartitionField.{PartitionField}
use Rattle.pol_meta.specs.declared.partition.PartitionSpec.{PartitionSpec}
use Rattle.pol_meta.specs.declared.reference.NamedRef.{NamedRef}
use Rattle.pol_meta.specs.declared.reference.RefKind.{RefKind}
use Rattle.pol_meta.specs.declared.reference.RefKind.TheVariants.{Branch, Tag}
use Rattle.pol_meta.specs.declared.reference.SnapshotRef.{SnapshotRef}
use Rattle.pol_meta.specs.declared.snapshot.Snapshot.{Snapshot}
use Rattle.pol_meta.specs.declared.sort.Direction.{Direction}
use Rattle.pol_meta.specs.declared.sort.Direction.TheVariants.{Asc, Desc}
use Rattle.pol_meta.specs.declared.sort.NullOrder.{NullOrder}
use Rattle.pol_meta.specs.declared.sort.NullOrder.TheVariants.{NullsFirst, NullsLast}
use Rattle.pol_meta.specs.declared.sort.SortField.{SortField}
use Rattle.pol_meta.specs.declared.sort.SortOrder.{SortOrder}
use Rattle.pol_meta.specs.declared.transform.Transform.{Transform}
use Rattle.pol_meta.specs.declared.transform.Transform.TheVariants.{Identity, Void, Year, Month, Day, Hour, Bucket, Truncate}
use Rattle.pol_partcodec.specs.Numbers.{column_id, field_id, id, kept, long, size}

-- a transform: its place, and the number of buckets or the width
abbrev transform_written : Transform → Written
transform_written Identity = written_as 0 no_fields tt
transform_written Void = written_as 1 no_fields tt
transform_written Year = written_as 2 no_fields tt
transform_written Month = written_as 3 no_fields tt
transform_written Day = written_as 4 no_fields tt
transform_written Hour = written_as 5 no_fields tt
transform_written (Bucket buckets) = written_as 6 size buckets
transform_written (Truncate width) = written_as 7 size width

-- a variant without fields
abbrev pub just : {E : Type 0} → E → ⊤ → E
just value fields = value

abbrev transform_variants : List (Variant transform_written)
transform_variants =
    case_of 0 (just Identity) no_fields (λ fields. refl)
    ∷ case_of 1 (just Void) no_fields (λ fields. refl)
    ∷ case_of 2 (just Year) no_fields (λ fields. refl)
    ∷ case_of 3 (just Month) no_fields (λ fields. refl)
    ∷ case_of 4 (just Day) no_fields (λ fields. refl)
    ∷ case_of 5 (just Hour) no_fields (λ fields. refl)
    ∷ case_of 6 Bucket size (λ buckets. refl)
    ∷ case_of 7 Truncate size (λ width. refl)
    ∷ []

pub transform_read_back : (value : Transform) (rest : List ℕ) → (transform_written value).holds → enum_read transform_variants ((transform_written value).bytes ++ rest) ≡ Some (value, rest)
transform_read_back Identity rest held = made_read_back (just Identity) no_fields tt rest held
transform_read_back Void rest held = made_read_back (just Void) no_fields tt rest held
transform_read_back Year rest held = made_read_back (just Year) no_fields tt rest held
transform_read_back Month rest held = made_read_back (just Month) no_fields tt rest held
transform_read_back Day rest held = made_read_back (just Day) no_fields tt rest held
transform_read_back Hour rest held = made_read_back (just Hour) no_fields tt rest held
transform_read_back (Bucket buckets) rest held = made_read_back Bucket size buckets rest held
transform_read_back (Truncate width) rest held = made_read_back Truncate size width rest held

unfoldable pub transform : Form Transform
transform = enum transform_written transform_variants transform_read_back

-- a partition field: the column's id, its own id, its name, the transform
unfoldable pub partition_field : Form PartitionField
partition_field = mapped (column_id & field_id & text & transform)
    (λ fields. record { source_id = fields.0; field_id = fields.1.0; name = fields.1.1.0; transform = fields.1.1.1 })
    (λ field. (field.source_id, (field.field_id, (field.name, field.transform))))
    (λ field. refl) (λ fields. refl)

-- a partition spec: id, fields
unfoldable pub partition_spec : Form PartitionSpec
partition_spec = mapped (id & list partition_field)
    (λ fields. record { spec_id = fields.0; fields = fields.1 })
    (λ spec. (spec.spec_id, spec.fields))
    (λ spec. refl) (λ fields. refl)

-- a direction, an order of nulls: its place
abbrev direction_written : Direction → Written
direction_written Asc = written_as 0 no_fields tt
direction_written Desc = written_as 1 no_fields tt

abbrev direction_variants : List (Variant direction_written)
direction_variants = case_of 0 (just Asc) no_fields (λ fields. refl) ∷ case_of 1 (just Desc) no_fields (λ fields. refl) ∷ []

pub direction_read_back : (value : Direction) (rest : List ℕ) → (direction_written value).holds → enum_read direction_variants ((direction_written value).bytes ++ rest) ≡ Some (value, rest)
direction_read_back Asc rest held = made_read_back (just Asc) no_fields tt rest held
direction_read_back Desc rest held = made_read_back (just Desc) no_fields tt rest held

unfoldable pub direction : Form Direction
direction = enum direction_written direction_variants direction_read_back

abbrev null_order_written : NullOrder → Written
null_order_written NullsFirst = written_as 0 no_fields tt
null_order_written NullsLast = written_as 1 no_fields tt

abbrev null_order_variants : List (Variant null_order_written)
null_order_variants = case_of 0 (just NullsFirst) no_fields (λ fields. refl) ∷ case_of 1 (just NullsLast) no_fields (λ fields. refl) ∷ []

pub null_order_read_back : (value : NullOrder) (rest : List ℕ) → (null_order_written value).holds → enum_read null_order_variants ((null_order_written value).bytes ++ rest) ≡ Some (value, rest)
null_order_read_back NullsFirst rest held = made_read_back (just NullsFirst) no_fields tt rest held
null_order_read_back NullsLast rest held = made_read_back (just NullsLast) no_fields tt rest held

unfoldable pub null_order : Form NullOrder
null_order = enum null_order_written null_order_variants null_order_read_back

-- a field of a sort order: transform, the column's id, direction, order of nulls
unfoldable pub sort_field : Form SortField
sort_field = mapped (transform & column_id & direction & null_order)
    (λ fields. record { transform = fields.0; source_id = fields.1.0; direction = fields.1.1.0; null_order = fields.1.1.1 })
    (λ field. (field.transform, (field.source_id, (field.direction, field.null_order))))
    (λ field. refl) (λ fields. refl)

-- a sort order: id, fields
unfoldable pub sort_order : Form SortOrder
sort_order = mapped (id & list sort_field)
    (λ fields. record { order_id = fields.0; fields = fields.1 })
    (λ order. (order.order_id, order.fields))
    (λ order. refl) (λ fields. refl)

-- whether a reference moves: its place
abbrev ref_kind_written : RefKind → Written
ref_kind_written Branch = written_as 0 no_fields tt
ref_kind_written Tag = written_as 1 no_fields tt

abbrev ref_kind_variants : List (Variant ref_kind_written)
ref_kind_variants = case_of 0 (just Branch) no_fields (λ fields. refl) ∷ case_of 1 (just Tag) no_fields (λ fields. refl) ∷ []

pub ref_kind_read_back : (value : RefKind) (rest : List ℕ) → (ref_kind_written value).holds → enum_read ref_kind_variants ((ref_kind_written value).bytes ++ rest) ≡ Some (value, rest)
ref_kind_read_back Branch rest held = made_read_back (just Branch) no_fields tt rest held
ref_kind_read_back Tag rest held = made_read_back (just Tag) no_fields tt rest held

unfoldable pub ref_kind : Form RefKind
ref_kind = enum ref_kind_written ref_kind_variants ref_kind_read_back

-- a reference: its kind, the snapshot's id, the greatest ages, and how many snapshots are kept at least
unfoldable pub snapshot_ref : Form SnapshotRef
snapshot_ref = mapped (ref_kind & long & optional kept & optional kept & optional kept)
    (λ fields. record { kind = fields.0; snapshot_id = fields.1.0; max_ref_age_ms = fields.1.1.0; max_snapshot_age_ms = fields.1.1.1.0; min_snapshots_to_keep = fields.1.1.1.1 })
    (λ one. (one.kind, (one.snapshot_id, (one.max_ref_age_ms, (one.max_snapshot_age_ms, one.min_snapshots_to_keep)))))
    (λ one. refl) (λ fields. refl)

-- a reference under its name: the name, then the reference
unfoldable pub named_ref : Form NamedRef
named_ref = mapped (text & snapshot_ref)
    (λ fields. record { name = fields.0; reference = fields.1 })
    (λ named. (named.name, named.reference))
    (λ named. refl) (λ fields. refl)

-- an entry of the metadata log: the file, the time
unfoldable pub metadata_log_entry : Form MetadataLogEntry
metadata_log_entry = mapped (text & long)
    (λ fields. record { metadata_file = fields.0; timestamp_ms = fields.1 })
    (λ entry. (entry.metadata_file, entry.timestamp_ms))
    (λ entry. refl) (λ fields. refl)

-- an entry of the snapshot log: the snapshot's id, the time
unfoldable pub snapshot_log_entry : Form SnapshotLogEntry
snapshot_log_entry = mapped (long & long)
    (λ fields. record { snapshot_id = fields.0; timestamp_ms = fields.1 })
    (λ entry. (entry.snapshot_id, entry.timestamp_ms))
    (λ entry. refl) (λ fields. refl)

-- whether a word is one of the operations that make a snapshot
abbrev pub is_operation : List ℕ → Bool
is_operation word =
    pointwise nat_eq word (codes "append") || (pointwise nat_eq word (codes "replace") || (pointwise nat_eq word (codes "overwrite") || pointwise nat_eq word (codes "delete")))

abbrev pub is_some_operation : Option (List ℕ) → Bool
is_some_operation None = false
is_some_operation (Some word) = is_operation word

-- whether a summary tells the operation that made the snapshot
abbrev pub has_operation : Snapshot → Bool
has_operation snapshot = is_some_operation (value_of (codes "operation") snapshot.summary)

abbrev pub HasOperation : Snapshot → Type 0
HasOperation snapshot = (word : List ℕ) × (value_of (codes "operation") snapshot.summary ≡ Some word) × IsOperation word

same_word : (left right : List ℕ) → pointwise nat_eq left right ≡ true → left ≡ right
same_word left right same = same_text left right (sym same)

one_word : (word : List ℕ) → pointwise nat_eq word word ≡ true
one_word word = nat_list_eq_equiv.refl word

operation-told : (word : List ℕ) → is_operation word ≡ true → IsOperation word
operation-told word passes =
    elim (or_cases _ _ passes) [
      | inl first ↦ inl (same_word word (codes "append") first)
      | inr others ↦ elim (or_cases _ _ others) [
        | inl second ↦ inr (inl (same_word word (codes "replace") second))
        | inr last ↦ elim (or_cases _ _ last) [
          | inl third ↦ inr (inr (inl (same_word word (codes "overwrite") third)))
          | inr fourth ↦ inr (inr (inr (same_word word (codes "delete") fourth)))
        ]
      ]
    ]

told-operation : (word : List ℕ) → IsOperation word → is_operation word ≡ true
told-operation word (inl is) = rw is refl
told-operation word (inr (inl is)) = rw is refl
told-operation word (inr (inr (inl is))) = rw is refl
told-operation word (inr (inr (inr is))) = rw is refl

some_told : (found : Option (List ℕ)) → is_some_operation found ≡ true → (word : List ℕ) × (found ≡ Some word) × IsOperation word
some_told None passes = absurd (cc)
some_told (Some word) passes = (word, refl, operation-told word passes)

pub has-operation-told : (snapshot : Snapshot) → has_operation snapshot ≡ true → HasOperation snapshot
has-operation-told snapshot passes = some_told (value_of (codes "operation") snapshot.summary) passes

pub told-has-operation : (snapshot : Snapshot) → HasOperation snapshot → has_operation snapshot ≡ true
told-has-operation snapshot right =
    ap is_some_operation right.1 ∙ told-operation right.0 right.2

-- a snapshot: its id, the parent's, the sequence number, the time, where the list of its files is, the summary, the
-- schema's id
unfoldable pub snapshot_fields : Form Snapshot
snapshot_fields = mapped (long & optional long & long & long & text & properties & optional id)
    (λ fields. record {
      snapshot_id = fields.0;
      parent_snapshot_id = fields.1.0;
      sequence_number = fields.1.1.0;
      timestamp_ms = fields.1.1.1.0;
      manifest_list = fields.1.1.1.1.0;
      summary = fields.1.1.1.1.1.0;
      schema_id = fields.1.1.1.1.1.1;
    })
    (λ one. (one.snapshot_id, (one.parent_snapshot_id, (one.sequence_number, (one.timestamp_ms, (one.manifest_list, (one.summary, one.schema_id)))))))
    (λ one. refl) (λ fields. refl)

unfoldable pub snapshot : Form Snapshot
snapshot = ruled snapshot_fields HasOperation has_operation
    (λ one held passes. has-operation-told one passes) told-has-operation

-- what a reference keeps: its number, and what is to be kept of it
pub record IsRef (one : SnapshotRef) : Type 0 where
  pub snapshot : IsLong one.snapshot_id
  pub age : IfSome one.max_ref_age_ms IsKept
  pub snapshot_age : IfSome one.max_snapshot_age_ms IsKept
  pub snapshots : IfSome one.min_snapshots_to_keep IsKept
