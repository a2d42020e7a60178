-- What a table is asked for with has the forms that a new table's metadata asks for.
use Rattle.std.proofs.Common.{ℕ, List, [], ◌∷◌, Option, Some, None, Result, Ok, Err, IfOk, sym, subst, IfSome}
use Rattle.std.specs.List.{All}
use Rattle.std.proofs.lemmas.List.Elements.{All-cons, All-nil}
use Rattle.serde_json.specs.Data.{Data, Items, no_items, item}
use Rattle.pol_meta.specs.Creation.{IsAskedFor}
use Rattle.pol_meta.specs.Valid.{IsFieldId, IsSortField, IsTransform, IsUnboundField}
use Rattle.pol_meta.specs.declared.partition.UnboundField.{UnboundField}
use Rattle.pol_meta.specs.declared.partition.UnboundSpec.{UnboundSpec}
use Rattle.pol_meta.specs.declared.sort.SortField.{SortField}
use Rattle.pol_meta.specs.declared.sort.UnboundOrder.{UnboundOrder}
use Rattle.pol_meta.specs.declared.transform.Transform.{Transform}
use Rattle.pol_readers.specs.Exactness.{bodies_exact}
use Rattle.pol_readers.specs.Forms.{body}
use Rattle.pol_readers.specs.Grammar.{AreItems, IsWhole, MayHaveField}
use Rattle.pol_readers.specs.Reading.{Gives}
use Rattle.pol_readers.specs.declared.error.ReadError.{ReadError}
use Rattle.pol_metajson.specs.Order.{sort_field, unbound_order}
use Rattle.pol_metajson.specs.Partition.{unbound_field, unbound_spec}
use Rattle.pol_metajson.specs.Table.{IsFormed, create_table, given_order, given_spec}
use Rattle.pol_metajson.specs.Transform.{transform}
use Rattle.pol_metakeys.specs.declared.keys.TheConstants.{FIELD_ID, PARTITION_SPEC, WRITE_ORDER}
use Rattle.pol_metajson.specs.declared.table.CreateTable.{CreateTable}
use Rattle.pol_metajson.proofs.FormLemmas.{schema_formed}
use Rattle.pol_metajson.proofs.WordLemmas.{transform_within}

-- what holds of each member holds of all
pub items_hold : {A : Type 0} (P : A → Type 0) (grammar : Data → A → Type 0) → ((d : Data) (value : A) → grammar d value → P value)
    → (ds : Items) (values : List A) → AreItems grammar ds values → All P values
items_hold P grammar each no_items [] so = All-nil P
items_hold P grammar each no_items (value ∷ values) so = absurd so
items_hold P grammar each (item d ds) [] so = absurd so
items_hold P grammar each (item d ds) (value ∷ values) so =
    All-cons P value values (each d value so.0) (items_hold P grammar each ds values so.1)

transform_formed : (d : Data) (value : Transform) → transform.stands d value → IsTransform value
unfolding transform
transform_formed d value so = transform_within so.0 value so.2

given_formed : (d : Data) (given : Option ℕ) → MayHaveField FIELD_ID.now (IsWhole 1000 2147483647) d given → IfSome given IsFieldId
given_formed d None so = tt
given_formed d (Some id) so = record { least = so.3.1; most = so.3.2 }

pub partition_field_formed : (d : Data) (value : UnboundField) → unbound_field.stands d value → IsUnboundField value
unfolding unbound_field
partition_field_formed d value so =
    subst IsUnboundField (sym so.2.2.2.2.2)
    (record {
      source = so.2.1.2.2;
      id = given_formed d so.2.2.0 so.2.2.1;
      transform = transform_formed so.2.2.2.2.1.0 so.2.2.2.2.0 so.2.2.2.2.1.2;
    })

spec_formed : (d : Data) (value : UnboundSpec) → unbound_spec.stands d value → All IsUnboundField value.fields
unfolding unbound_spec
spec_formed d value so =
    subst (λ (other : UnboundSpec). All IsUnboundField other.fields) (sym so.2.2.2)
    (items_hold IsUnboundField unbound_field.stands partition_field_formed so.2.2.1.2.0 so.2.2.0 so.2.2.1.2.2)

pub sort_field_formed : (d : Data) (value : SortField) → sort_field.stands d value → IsSortField value
unfolding sort_field
sort_field_formed d value so =
    subst IsSortField (sym so.2.2.2.2.2)
    (record { source = so.2.2.1.2.2; transform = transform_formed so.2.1.0 so.2.0 so.2.1.2 })

order_formed : (d : Data) (value : UnboundOrder) → unbound_order.stands d value → All IsSortField value.fields
unfolding unbound_order
order_formed d value so =
    subst (λ (other : UnboundOrder). All IsSortField other.fields) (sym so.2.2.2)
    (items_hold IsSortField sort_field.stands sort_field_formed so.2.2.1.2.0 so.2.2.0 so.2.2.1.2.2)

given_spec_formed : (d : Data) (given : Option UnboundSpec) → MayHaveField PARTITION_SPEC.now unbound_spec.stands d given → All IsUnboundField (given_spec given).fields
given_spec_formed d None so = All-nil IsUnboundField
given_spec_formed d (Some spec) so = spec_formed so.0 spec so.3

given_order_formed : (d : Data) (given : Option UnboundOrder) → MayHaveField WRITE_ORDER.now unbound_order.stands d given → All IsSortField (given_order given).fields
given_order_formed d None so = All-nil IsSortField
given_order_formed d (Some order) so = order_formed so.0 order so.3

request_formed : (d : Data) (request : CreateTable) → create_table.stands d request → IsFormed request
unfolding create_table
request_formed d request so moment time =
    let columns = so.2.2.2 in
    let parted = columns.2 in
    let sorted = parted.2 in
    subst (λ (other : CreateTable). IsAskedFor other.schema other.partition_spec other.write_order moment) (sym so.2.2.2.2.2.2.2.2)
    (record {
      schema_form = schema_formed columns.1.0 columns.0 columns.1.2;
      spec_fields = given_spec_formed d parted.0 parted.1;
      order_fields = given_order_formed d sorted.0 sorted.1;
      time = time;
    })

-- what is read of a body has its forms
pub body_formed : (bytes : List ℕ) (outcome : Result CreateTable ReadError) → Gives outcome (body create_table.read bytes) → IfOk outcome IsFormed
body_formed bytes (Ok request) is =
    let so = (bodies_exact create_table.exact).sound bytes request is in
    request_formed so.0 request so.4
body_formed bytes (Err error) is = tt
