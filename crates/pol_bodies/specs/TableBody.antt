-- The body that creates a table, as requests read it.
use Rattle.std.specs.Prelude.{◌≡◌, ℕ, List, Result, Ok, Err, refl}
use Rattle.pol_commands.specs.declared.create_table.CreateTable.{CreateTable}
use Rattle.pol_metajson.specs.Table.{create_table, IsFormed}
use Rattle.pol_metajson.specs.declared.table.CreateTable.{CreateTable as TableBody}
use Rattle.pol_metajson.proofs.RequestLemmas.{body_formed}
use Rattle.pol_readers.specs.Path.{path_text}
use Rattle.pol_readers.specs.Reading.{Reading}
use Rattle.pol_readers.specs.Shape.{body}
use Rattle.pol_requests.specs.declared.refused.RouteRefused.{RouteRefused}
use Rattle.pol_requests.specs.declared.refused.RouteRefused.TheVariants.{Unreadable}

-- what a body asks for, as a command has it: its parts have their forms
abbrev pub asked_for : (request : TableBody) → ∥ IsFormed request ∥₁ → CreateTable
asked_for request formed = record {
  name = request.name;
  location = request.location;
  schema = request.schema;
  partition_spec = request.partition_spec;
  write_order = request.write_order;
  stage_create = request.stage_create;
  properties = request.properties;
  formed = formed;
}

abbrev pub asked_by : (reading : Reading TableBody) → ((request : TableBody) → reading ≡ Ok request → IsFormed request) → Result CreateTable RouteRefused
asked_by (Ok request) formed = Ok (asked_for request ∣ formed request refl ∣₁)
asked_by (Err path) formed = Err (Unreadable (path_text path))

-- what is read of a body has its forms
pub read_formed : (bytes : List ℕ) (request : TableBody) → body create_table bytes ≡ Ok request → IsFormed request
read_formed bytes request is = body_formed bytes (Ok request) is

unfoldable pub create_table_of : List ℕ → Result CreateTable RouteRefused
create_table_of bytes = asked_by (body create_table bytes) (read_formed bytes)
