-- Which metadata have a form.
use Rattle.pol_meta.specs.Valid.{IsSchema, IsValid}
use Rattle.pol_meta.specs.declared.metadata.TableMetadata.{TableMetadata}
use Rattle.pol_meta.specs.declared.schema.Schema.{Schema}
use Rattle.pol_metacodec.specs.Metadata.{metadata, schema}

-- no schema that the Iceberg table spec doesn't have
abbrev pub SchemasAreValid : Type 0
SchemasAreValid = (one : Schema) → schema.holds one → IsSchema one

-- and no metadata that isn't valid
abbrev pub MetadataAreValid : Type 0
MetadataAreValid = (meta : TableMetadata) → metadata.holds meta → IsValid meta
