-- Partition specs that are asked for (Iceberg table spec, Partition Specs).
use Rattle.pol_meta.specs.declared.partition.UnboundField.{UnboundField}
use Rattle.pol_meta.specs.declared.partition.UnboundSpec.{UnboundSpec}
use Rattle.pol_readers.specs.Shape.{Shape, ◌>>=◌, an_object, done, field, list, optional, text}
use Rattle.pol_metajson.specs.Ids.{column_id, field_id, id}
use Rattle.pol_metajson.specs.Transform.{transform}
use Rattle.pol_metakeys.specs.declared.keys.TheConstants.{FIELD_ID, FIELDS, NAME, SOURCE_ID, SPEC_ID, TRANSFORM}

unfoldable pub unbound_field : Shape UnboundField
unbound_field = do
  _ ← an_object
  source ← field SOURCE_ID.now column_id
  given ← optional FIELD_ID.now field_id
  named ← field NAME.now text
  transformed ← field TRANSFORM.now transform
  done (record { source_id = source; field_id = given; name = named; transform = transformed })

-- an id that is given is read for its form alone
unfoldable pub unbound_spec : Shape UnboundSpec
unbound_spec = do
  _ ← an_object
  _ ← optional SPEC_ID.now id
  fields ← field FIELDS.now (list unbound_field)
  done (record { fields = fields })
