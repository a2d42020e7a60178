-- That the metadata of a new table is valid.
use Rattle.std.proofs.Common.{◌≡◌, ◌≤◌, ◌+◌, ℕ, Bool, true, false, not, List, [], ◌∷◌, max, Option, Some, None, is_none, unwrap_or, cond, refl, arith, lit<, lit≤, if◌then◌else◌, IfSome, nat_eq}
use Rattle.std.specs.List.{All, IsDistinct}
use Rattle.std.specs.List.Sorted.{IsStrictlySortedBy}
use Rattle.std.specs.Option.{option_or}
use Rattle.std.specs.declared.cmp.Ordering.{Ordering}
use Rattle.std.proofs.lemmas.Bool.{ltb-false}
use Rattle.std.proofs.lemmas.List.Elements.{All-cons, All-head, All-map, All-nil, All-tail, All-weaker}
use Rattle.std.proofs.lemmas.List.Sums.{sum_by-cons}
use Rattle.pol_properties.specs.declared.property.Property.{Property}
use Rattle.pol_meta.specs.Columns.{column_ids}
use Rattle.pol_meta.specs.Creation.{IsAskedFor, bound_fields, create_refusal, created, field_ids, first_order, first_schema, first_spec, given_ids, highest, highest_given, numbered, order_id, spec_refusal, unnumbered}
use Rattle.pol_meta.specs.Valid.{IsColumn, IsColumnId, IsFieldId, IsId, IsMetadataLogEntry, IsNamedRef, IsPartitionField, IsPartitionSpec, IsSchema, IsSnapshot, IsSnapshotLogEntry, IsSortField, IsSortOrder, IsUnboundField, IsValid}
use Rattle.pol_meta.specs.declared.column.Column.{Column}
use Rattle.pol_meta.specs.declared.partition.PartitionField.{PartitionField}
use Rattle.pol_meta.specs.declared.partition.UnboundField.{UnboundField}
use Rattle.pol_meta.specs.declared.partition.UnboundSpec.{UnboundSpec}
use Rattle.pol_meta.specs.declared.schema.Schema.{Schema}
use Rattle.pol_meta.specs.declared.sort.SortField.{SortField}
use Rattle.pol_meta.specs.declared.sort.UnboundOrder.{UnboundOrder}
use Rattle.pol_meta.specs.declared.why.Why.{Why}
use Rattle.pol_meta.specs.declared.why.Why.TheVariants.{FieldTwice, IdsUsedUp, NoSuchField}

-- the highest is no less than the least, and no more than what bounds it and all others
least_highest : (least : ℕ) (ids : List ℕ) → least ≤ highest least ids
least_highest least [] = omega arith
least_highest least (id ∷ ids) = omega (arith, least_highest (max least id) ids)

highest_within : (most least : ℕ) (ids : List ℕ) → least ≤ most → All (λ id. id ≤ most) ids → highest least ids ≤ most
highest_within most least [] low within = low
highest_within most least (id ∷ ids) low within =
    let here : id ≤ most = All-head (λ id. id ≤ most) id ids within in
    highest_within most (max least id) ids (omega arith) (All-tail (λ id. id ≤ most) id ids within)

-- a field gets an id in the range, and the next one stays in it
first_id : (next rest : ℕ) (given : Option ℕ) → 1000 ≤ next → next + (cond (is_none given) 1 0 + rest) ≤ 2147483648 → IfSome given IsFieldId → IsFieldId (unwrap_or given next)
first_id next rest None least room form = record { least = least; most = omega arith }
first_id next rest (Some id) least room form = form

next_least : (next : ℕ) (given : Option ℕ) → 1000 ≤ next → 1000 ≤ (if is_none given then next + 1 else next)
next_least next None least = omega arith
next_least next (Some id) least = least

next_room : (next rest : ℕ) (given : Option ℕ) → next + (cond (is_none given) 1 0 + rest) ≤ 2147483648 → (if is_none given then next + 1 else next) + rest ≤ 2147483648
next_room next rest None room = omega arith
next_room next rest (Some id) room = omega arith

-- fields that are numbered have the form of partition fields
numbered_fields : (next : ℕ) (fields : List UnboundField) → 1000 ≤ next → next + unnumbered fields ≤ 2147483648 → All IsUnboundField fields → All IsPartitionField (numbered next fields)
numbered_fields next [] least room forms = All-nil IsPartitionField
numbered_fields next (field ∷ fields) least room forms =
    let form = All-head IsUnboundField field fields forms in
    let counted : next + (cond (is_none field.field_id) 1 0 + unnumbered fields) ≤ 2147483648 =
    omega (arith, sum_by-cons (λ (other : UnboundField). cond (is_none other.field_id) 1 0) field fields) in
    All-cons IsPartitionField _ _ (record {
      source = form.source;
      id = first_id next (unnumbered fields) field.field_id least counted form.id;
      transform = form.transform;
    })
    (numbered_fields (if is_none field.field_id then next + 1 else next) fields (next_least next field.field_id least) (next_room next (unnumbered fields) field.field_id counted) (All-tail IsUnboundField field fields forms))

-- a spec that isn't refused needs no id above the highest
passing : (known twice over : Bool) → (if not known then Some NoSuchField else if twice then Some FieldTwice else if over then Some IdsUsedUp else None) ≡ None → over ≡ false
passing true false false passes = refl
passing true false true passes = cc
passing true true over passes = cc
passing false twice over passes = cc

ids_left : (columns : List Column) (fields : List UnboundField) → spec_refusal columns fields ≡ None → highest_given fields + unnumbered fields ≤ 2147483647
unfolding spec_refusal
ids_left columns fields passes = ltb-false _ _ (passing _ _ _ passes)

spec_passes : (spec order : Option Why) → option_or spec order ≡ None → spec ≡ None
spec_passes None order passes = refl
spec_passes (Some why) order passes = cc

-- the parts of a new table have their forms
pub schema_form : (schema : Schema) → IsSchema schema → IsSchema (first_schema schema)
schema_form schema form = record {
  id = lit≤ tt;
  columns = form.columns;
  nested = form.nested;
  differ = form.differ;
  identified = form.identified;
}

spec_form : (columns : List Column) (spec : UnboundSpec) → All IsUnboundField spec.fields → spec_refusal columns spec.fields ≡ None → IsPartitionSpec (first_spec spec)
spec_form columns spec forms passes = record {
  id = lit≤ tt;
  fields = numbered_fields (highest_given spec.fields + 1) spec.fields
      (omega (arith, least_highest 999 (given_ids spec.fields))) (omega (arith, ids_left columns spec.fields passes)) forms;
}

order_form : (order : UnboundOrder) → All IsSortField order.fields → IsSortOrder (first_order order)
order_form order forms = record { id = order_id_within order.fields; fields = forms }
  where
    order_id_within : (fields : List SortField) → IsId (order_id fields)
    order_id_within [] = lit≤ tt
    order_id_within (field ∷ fields) = lit≤ tt

column_bound : (schema : Schema) → IsSchema schema → IsColumnId (highest 0 (column_ids schema.fields))
column_bound schema form =
    highest_within 2147483447 0 (column_ids schema.fields) (lit≤ tt)
    (All-map (λ id. id ≤ 2147483447) (λ column. column.id) schema.fields
    (All-weaker IsColumn (λ column. column.id ≤ 2147483447) (λ column column_form. column_form.id) schema.fields form.columns))

partition_bound : (fields : List PartitionField) → All IsPartitionField fields → IsId (highest 999 (field_ids fields))
partition_bound fields forms =
    highest_within 2147483647 999 (field_ids fields) (lit≤ tt)
    (All-map (λ id. id ≤ 2147483647) (λ field. field.field_id) fields
    (All-weaker IsPartitionField (λ field. field.field_id ≤ 2147483647) (λ field field_form. field_form.id.most) fields forms))

pub holds_alone : {A : Type 0} (P : A → Type 0) (x : A) → P x → All P (x ∷ [])
holds_alone P x here = All-cons P x [] here (All-nil P)

pub alone : (id : ℕ) → IsDistinct nat_eq (id ∷ [])
unfolding IsDistinct
alone id = (tt, tt)

nobody : IsDistinct nat_eq []
unfolding IsDistinct
nobody = tt

unnamed : {A : Type 0} (order : A → A → Ordering) → IsStrictlySortedBy order []
unfolding IsStrictlySortedBy
unnamed order = tt

-- the metadata of a new table is valid, where it is made of what has the forms of its parts
pub created_valid : (uuid location : List ℕ) (schema : Schema) (spec : UnboundSpec) (order : UnboundOrder) (properties : List Property) (moment : ℕ) → IsAskedFor schema spec order moment → create_refusal schema spec order ≡ None → IsValid (created uuid location schema spec order properties moment)
unfolding created create_refusal
created_valid uuid location schema spec order properties moment asked passes =
    let spec_part = spec_form schema.fields spec asked.spec_fields (spec_passes _ _ passes) in
    let order_part = order_form order asked.order_fields in
    record {
      forms = record {
        version = refl;
        current_schema = lit≤ tt;
        current_snapshot = tt;
        default_order = order_part.id;
        default_spec = lit≤ tt;
        schemas = holds_alone IsSchema (first_schema schema) (schema_form schema asked.schema_form);
        specs = holds_alone IsPartitionSpec (first_spec spec) spec_part;
        orders = holds_alone IsSortOrder (first_order order) order_part;
        snapshots = All-nil IsSnapshot;
        refs = All-nil IsNamedRef;
        ordered = unnamed _;
        metadata_log = All-nil IsMetadataLogEntry;
        snapshot_log = All-nil IsSnapshotLogEntry;
        column = column_bound schema asked.schema_form;
        partition_least = least_highest 999 (field_ids (bound_fields spec.fields));
        partition_most = partition_bound (bound_fields spec.fields) spec_part.fields;
        sequence = lit< tt;
        updated = asked.time;
      };
      ids = record { schemas = alone 0; specs = alone 0; orders = alone (order_id order.fields); snapshots = nobody };
      members = record {
        schema = (0, lit< tt, refl);
        spec = (0, lit< tt, refl);
        order = (0, lit< tt, refl);
        refs = All-nil _;
        current = refl;
      };
    }
