-- Printed partition specs and sort orders are read as the same.
use Rattle.std.proofs.Common.{Some, refl}
use Rattle.serde_json.specs.Data.{Data, string}
use Rattle.pol_meta.specs.Valid.{IsPartitionField, IsPartitionSpec, IsSortField, IsSortOrder, IsTransform}
use Rattle.pol_meta.specs.declared.partition.PartitionField.{PartitionField}
use Rattle.pol_meta.specs.declared.partition.PartitionSpec.{PartitionSpec}
use Rattle.pol_meta.specs.declared.partition.UnboundField.{UnboundField}
use Rattle.pol_meta.specs.declared.sort.Direction.{Direction}
use Rattle.pol_meta.specs.declared.sort.Direction.TheVariants.{Asc, Desc}
use Rattle.pol_meta.specs.declared.sort.NullOrder.{NullOrder}
use Rattle.pol_meta.specs.declared.sort.NullOrder.TheVariants.{NullsFirst, NullsLast}
use Rattle.pol_meta.specs.declared.sort.SortField.{SortField}
use Rattle.pol_meta.specs.declared.sort.SortOrder.{SortOrder}
use Rattle.pol_meta.specs.declared.transform.Transform.{Transform}
use Rattle.pol_readers.specs.Forms.{one_of, text}
use Rattle.pol_metaread.specs.Numbered.{partition_field, partition_spec, sort_order}
use Rattle.pol_metajson.specs.Order.{direction, null_order, sort_field}
use Rattle.pol_metajson.specs.Partition.{unbound_field}
use Rattle.pol_metajson.specs.Transform.{transform}
use Rattle.pol_metaprint.specs.Json.{number_json, partition_field_json, partition_spec_json, sort_field_json, sort_order_json}
use Rattle.pol_metaprint.specs.Texts.{direction_text, null_order_text, transform_text}
use Rattle.pol_metalaws.proofs.ObjectLemmas as objects
use Rattle.pol_metalaws.proofs.TextLemmas.{transform_is_read}

pub transform_read : (t : Transform) → IsTransform t → transform.stands (string (transform_text t)) t
unfolding transform
transform_read t valid = (transform_text t, refl, transform_is_read t valid)

unbound : PartitionField → UnboundField
unbound field = record {
  source_id = field.source_id;
  field_id = Some field.field_id;
  name = field.name;
  transform =
      field.transform;
}

pub partition_field_read : (field : PartitionField) → IsPartitionField field
    → partition_field.stands (partition_field_json field) field
unfolding partition_field unbound_field partition_field_json unbound
partition_field_read field valid =
    let within = valid.id in
    let given : Data = number_json field.field_id in (
      unbound field,
      (
        tt,
        (_, refl),
        (
          field.source_id,
          (number_json field.source_id, refl, objects.up_to 2147483447 field.source_id valid.source),
          (
            Some field.field_id,
            (given, refl, (λ e. cc), (refl, within.least, within.most)),
            (
              field.name,
              (string field.name, refl, refl),
              (
                field.transform,
                (
                  string (transform_text field.transform),
                  refl,
                  transform_read field.transform
                      valid.transform,
                ),
                refl,
              ),
            ),
          ),
        ),
      ),
      (field.field_id, (given, refl, (refl, within.least, within.most)), refl),
    )

pub partition_spec_read : (spec : PartitionSpec) → IsPartitionSpec spec
    → partition_spec.stands (partition_spec_json spec) spec
unfolding partition_spec partition_spec_json
partition_spec_read spec valid = (
  tt,
  (_, refl),
  (
    spec.spec_id,
    (_, refl, objects.up_to 2147483647 spec.spec_id valid.id),
    (
      spec.fields,
      (
        _,
        refl,
        objects.list_read partition_field.stands partition_field_json IsPartitionField
            partition_field_read spec.fields valid.fields,
      ),
      refl,
    ),
  ),
)

direction_read : (found : Direction) → direction.stands (string (direction_text found)) found
unfolding direction one_of text
direction_read Asc = direction.exact.sound (string (direction_text Asc)) Asc refl
direction_read Desc = direction.exact.sound (string (direction_text Desc)) Desc refl

null_order_read : (found : NullOrder) → null_order.stands (string (null_order_text found)) found
unfolding null_order one_of text
null_order_read NullsFirst = null_order.exact.sound (string (null_order_text NullsFirst)) NullsFirst refl
null_order_read NullsLast = null_order.exact.sound (string (null_order_text NullsLast)) NullsLast refl

sort_field_read : (field : SortField) → IsSortField field → sort_field.stands (sort_field_json field) field
unfolding sort_field sort_field_json
sort_field_read field valid = (
  tt,
  (_, refl),
  (
    field.transform,
    (_, refl, transform_read field.transform valid.transform),
    (
      field.source_id,
      (_, refl, objects.up_to 2147483447 field.source_id valid.source),
      (
        field.direction,
        (_, refl, direction_read field.direction),
        (field.null_order, (_, refl, null_order_read field.null_order), refl),
      ),
    ),
  ),
)

pub sort_order_read : (order : SortOrder) → IsSortOrder order → sort_order.stands (sort_order_json order) order
unfolding sort_order sort_order_json
sort_order_read order valid = (
  tt,
  (_, refl),
  (
    order.order_id,
    (_, refl, objects.up_to 2147483647 order.order_id valid.id),
    (
      order.fields,
      (
        _,
        refl,
        objects.list_read sort_field.stands sort_field_json IsSortField sort_field_read
            order.fields valid.fields,
      ),
      refl,
    ),
  ),
)
