-- How the metadata of a new table is made: the ids that its parts get, and why it can't be made.
use Rattle.std.specs.Prelude.{◌≡◌, ◌+◌, ◌==◌, ◌||◌, ℕ, max, Bool, false, not, List, [], ◌∷◌, map, count_by, nat_lt, Option, Some, None, is_none, unwrap_or, if◌then◌else◌, All}
use Rattle.std.specs.Bool.{⊤}
use Rattle.std.specs.List.{filter_map, fold, list_all, list_any}
use Rattle.std.specs.Option.{option_or}
use Rattle.std.specs.Str.{bytes_eq}
use Rattle.pol_properties.specs.declared.property.Property.{Property}
use Rattle.pol_meta.specs.Columns.{column_ids, has_column}
use Rattle.pol_meta.specs.Valid.{IsLong, IsSchema, IsSortField, IsUnboundField}
use Rattle.pol_meta.specs.declared.column.Column.{Column}
use Rattle.pol_meta.specs.declared.metadata.TableMetadata.{TableMetadata}
use Rattle.pol_meta.specs.declared.partition.PartitionField.{PartitionField}
use Rattle.pol_meta.specs.declared.partition.PartitionSpec.{PartitionSpec}
use Rattle.pol_meta.specs.declared.partition.UnboundField.{UnboundField}
use Rattle.pol_meta.specs.declared.partition.UnboundSpec.{UnboundSpec}
use Rattle.pol_meta.specs.declared.schema.Schema.{Schema}
use Rattle.pol_meta.specs.declared.sort.SortField.{SortField}
use Rattle.pol_meta.specs.declared.sort.SortOrder.{SortOrder}
use Rattle.pol_meta.specs.declared.sort.UnboundOrder.{UnboundOrder}
use Rattle.pol_meta.specs.declared.why.CreateRefused.{CreateRefused}
use Rattle.pol_meta.specs.declared.why.CreateRefused.TheVariants.{OutOfMemory, Refused}
use Rattle.pol_meta.specs.declared.why.Why.{Why}
use Rattle.pol_meta.specs.declared.why.Why.TheVariants.{FieldTwice, IdsUsedUp, NoSuchField}

-- the highest of these, and no less than the least
abbrev pub highest : ℕ → List ℕ → ℕ
highest least ids = fold max least ids

-- whether an item is as one after it
abbrev pub stands_twice : {A : Type 0} → (A → A → Bool) → List A → Bool
stands_twice same [] = false
stands_twice same (first ∷ others) = list_any (same first) others || stands_twice same others

-- the ids that fields are asked for with, and how many have none
abbrev pub given_ids : List UnboundField → List ℕ
given_ids fields = filter_map (λ field. field.field_id) fields

abbrev pub unnumbered : List UnboundField → ℕ
unnumbered fields = count_by (λ field. is_none field.field_id) fields

-- whether two fields are asked for with one id or one name
abbrev pub is_same_id : Option ℕ → Option ℕ → Bool
is_same_id (Some left) (Some right) = left == right
is_same_id (Some left) None = false
is_same_id None right = false

abbrev pub is_same_given : UnboundField → UnboundField → Bool
is_same_given left right = is_same_id left.field_id right.field_id

abbrev pub is_same_name : UnboundField → UnboundField → Bool
is_same_name left right = bytes_eq left.name right.name

abbrev pub is_same_field : UnboundField → UnboundField → Bool
is_same_field left right = is_same_given left right || is_same_name left right

-- ids are given out above this: above 999, and above all that are given
abbrev pub highest_given : List UnboundField → ℕ
highest_given fields = highest 999 (given_ids fields)

-- a field with its id
abbrev pub bound : ℕ → UnboundField → PartitionField
bound id field = record { source_id = field.source_id; field_id = id; name = field.name; transform = field.transform }

-- fields with their ids: each keeps its own, and those without get the next ones in turn
abbrev pub numbered : ℕ → List UnboundField → List PartitionField
numbered next [] = []
numbered next (field ∷ fields) =
    bound (unwrap_or field.field_id next) field ∷ numbered (if is_none field.field_id then next + 1 else next) fields

abbrev pub bound_fields : List UnboundField → List PartitionField
bound_fields fields = numbered (highest_given fields + 1) fields

-- why a table of these columns can't have a partition spec of these fields: a source that is no column, an id or a name
-- that stands twice, or an id above the highest that there may be
unfoldable pub spec_refusal : List Column → List UnboundField → Option Why
spec_refusal columns fields =
    if not (list_all (λ field. has_column columns field.source_id) fields) then Some NoSuchField
    else if stands_twice is_same_field fields then Some FieldTwice
    else if nat_lt 2147483647 (highest_given fields + unnumbered fields) then Some IdsUsedUp
    else None

-- why it can't have a sort order of these fields
unfoldable pub order_refusal : List Column → List SortField → Option Why
order_refusal columns fields =
    if list_all (λ field. has_column columns field.source_id) fields then None else Some NoSuchField

-- why a table can't be made: its spec is judged before its order
unfoldable pub create_refusal : Schema → UnboundSpec → UnboundOrder → Option Why
create_refusal schema spec order =
    option_or (spec_refusal schema.fields spec.fields) (order_refusal schema.fields order.fields)

-- what `create` may answer in place of a metadata
abbrev pub IsCreateRefusal : Schema → UnboundSpec → UnboundOrder → CreateRefused → Type 0
IsCreateRefusal schema spec order OutOfMemory = ⊤
IsCreateRefusal schema spec order (Refused why) = create_refusal schema spec order ≡ Some why

-- the id of a new table's order: 0 where nothing is sorted
abbrev pub order_id : List SortField → ℕ
order_id [] = 0
order_id (field ∷ fields) = 1

-- the one schema, spec and order of a new table
abbrev pub first_schema : Schema → Schema
first_schema schema = record schema { schema_id = 0 }

abbrev pub first_spec : UnboundSpec → PartitionSpec
first_spec spec = record { spec_id = 0; fields = bound_fields spec.fields }

abbrev pub first_order : UnboundOrder → SortOrder
first_order order = record { order_id = order_id order.fields; fields = order.fields }

abbrev pub field_ids : List PartitionField → List ℕ
field_ids fields = map (λ field. field.field_id) fields

-- the metadata of a table that has this one schema, spec and order, and no snapshot yet
abbrev pub assembled : List ℕ → List ℕ → Schema → PartitionSpec → SortOrder → List Property → ℕ → TableMetadata
assembled uuid location schema spec order properties moment = record {
  current_schema_id = 0;
  current_snapshot_id = None;
  default_sort_order_id = order.order_id;
  default_spec_id = 0;
  format_version = 2;
  last_column_id = highest 0 (column_ids schema.fields);
  last_partition_id = highest 999 (field_ids spec.fields);
  last_sequence_number = 0;
  last_updated_ms = moment;
  location = location;
  metadata_log = [];
  partition_specs = spec ∷ [];
  properties = properties;
  refs = [];
  schemas = first_schema schema ∷ [];
  snapshot_log = [];
  snapshots = [];
  sort_orders = order ∷ [];
  table_uuid = uuid;
}

-- the metadata of a new table
unfoldable pub created : List ℕ → List ℕ → Schema → UnboundSpec → UnboundOrder → List Property → ℕ → TableMetadata
created uuid location schema spec order properties moment =
    assembled uuid location schema (first_spec spec) (first_order order) properties moment

-- what a table is asked for with has the forms of its parts
pub record IsAskedFor (schema : Schema) (spec : UnboundSpec) (order : UnboundOrder) (moment : ℕ) : Type 0 where
  pub schema_form : IsSchema schema
  pub spec_fields : All IsUnboundField spec.fields
  pub order_fields : All IsSortField order.fields
  pub time : IsLong moment

-- what a table is asked for with has the forms of its parts, at any moment
abbrev pub HaveForms : Schema → UnboundSpec → UnboundOrder → Type 0
HaveForms schema spec order = (moment : ℕ) → IsLong moment → IsAskedFor schema spec order moment
