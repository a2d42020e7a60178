-- Schemas, partition specs and sort orders that have their ids (Iceberg table spec, Appendix C).
use Rattle.pol_readers.specs.Shape.{Shape, ◌>>=◌, an_object, done, field, list}
use Rattle.pol_meta.specs.Creation.{bound}
use Rattle.pol_meta.specs.declared.partition.PartitionField.{PartitionField}
use Rattle.pol_meta.specs.declared.partition.PartitionSpec.{PartitionSpec}
use Rattle.pol_meta.specs.declared.schema.Schema.{Schema}
use Rattle.pol_meta.specs.declared.sort.SortOrder.{SortOrder}
use Rattle.pol_metajson.specs.Ids.{field_id, id}
use Rattle.pol_metajson.specs.Order.{sort_field}
use Rattle.pol_metajson.specs.Partition.{unbound_field}
use Rattle.pol_metajson.specs.Schema.{schema}
use Rattle.pol_metakeys.specs.declared.keys.TheConstants.{FIELD_ID, FIELDS, ORDER_ID, SCHEMA_ID, SPEC_ID}

-- what is read as one that is asked for, and has its id
unfoldable pub numbered_schema : Shape Schema
numbered_schema = do
  read ← schema
  given ← field SCHEMA_ID.now id
  done (record read { schema_id = given })

unfoldable pub partition_field : Shape PartitionField
partition_field = do
  read ← unbound_field
  given ← field FIELD_ID.now field_id
  done (bound given read)

unfoldable pub partition_spec : Shape PartitionSpec
partition_spec = do
  _ ← an_object
  given ← field SPEC_ID.now id
  fields ← field FIELDS.now (list partition_field)
  done (record { spec_id = given; fields = fields })

unfoldable pub sort_order : Shape SortOrder
sort_order = do
  _ ← an_object
  given ← field ORDER_ID.now id
  fields ← field FIELDS.now (list sort_field)
  done (record { order_id = given; fields = fields })
