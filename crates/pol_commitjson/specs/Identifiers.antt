-- The full names of tables (Iceberg REST OpenAPI, TableIdentifier).
use Rattle.std.specs.Prelude.{ℕ, List, is_none}
use Rattle.pol_commitjson.specs.declared.keys.TheConstants as key
use Rattle.pol_metajson.specs.Table.{table_name}
use Rattle.pol_metakeys.specs.declared.keys.TheConstants as meta_key
use Rattle.pol_names.specs.Namespace.{namespace_refusal}
use Rattle.pol_names.specs.declared.identifier.Identifier.{Identifier}
use Rattle.pol_readers.specs.Shape.{Shape, ◌>>=◌, an_object, done, field, list, rule, text, whole}

-- a namespace, as the list of its levels, into which no path goes
unfoldable pub levels : Shape (List (List ℕ))
levels = do
  texts ← whole (list text)
  _ ← rule (is_none (namespace_refusal texts))
  done texts

unfoldable pub identifier : Shape Identifier
identifier = do
  _ ← an_object
  within ← field key.NAMESPACE.now levels
  called ← field meta_key.NAME.now table_name
  done (record { namespace = within; name = called })
