-- The body that renames a table or a view (Iceberg REST OpenAPI, RenameTableRequest).
use Rattle.pol_bodies.specs.ManagementBodies.{identifier}
use Rattle.pol_bodies.specs.declared.keys.TheConstants.{DESTINATION, NAME, SOURCE}
use Rattle.pol_bodies.specs.declared.renaming.RenameBody.{RenameBody}
use Rattle.pol_names.specs.declared.identifier.Identifier.{Identifier}
use Rattle.pol_readers.specs.Shape.{Shape, ◌>>=◌, an_object, done, field}

-- the full name of a table or a view (TableIdentifier)
unfoldable pub full_name : Shape Identifier
full_name = do
  _ ← an_object
  identifier NAME.now

unfoldable pub renaming : Shape RenameBody
renaming = do
  _ ← an_object
  from ← field SOURCE.now full_name
  to ← field DESTINATION.now full_name
  done (record { source = from; destination = to })
