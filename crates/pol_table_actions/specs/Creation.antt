-- Creating a table.
use Rattle.std.specs.Prelude.{ℕ, ◌+◌, ◌*◌, ◌^◌, false, List, [], ◌∷◌, Option, option_and_then}
use Rattle.std.specs.Int.{w128, to_be_bytes}
use Rattle.std.specs.Option.{option_map}
use Rattle.uuid.specs.Parts.{with_variant, with_version}
use Rattle.uuid.specs.declared.Variant.TheVariants as variant
use Rattle.uuid.specs.declared.Version.TheVariants as version
use Rattle.pol_access.specs.declared.privilege.Privilege.TheVariants.{TableCreate}
use Rattle.pol_commands.specs.declared.command.Command.{Command}
use Rattle.pol_commands.specs.declared.create_table.CreateTable.{CreateTable}
use Rattle.pol_commands.specs.declared.reply.Refusal.{Refusal}
use Rattle.pol_content.specs.Content.{catalog_named, namespace_named, part_named}
use Rattle.pol_content.specs.declared.rows.CatalogRow.{CatalogRow}
use Rattle.pol_content.specs.declared.rows.NamespaceRow.{NamespaceRow}
use Rattle.pol_locations.specs.Location.{location_text}
use Rattle.pol_meta.specs.Creation.{created}
use Rattle.pol_meta.specs.declared.metadata.TableMetadata.{TableMetadata}
use Rattle.pol_properties.specs.Properties.{without_key}
use Rattle.pol_table_rows.specs.Tables.{table_id}
use Rattle.pol_table_rows.specs.declared.row.TableRow.{TableRow}
use Rattle.pol_tables.specs.Table.{rows_with}
use Rattle.pol_rules.specs.Acting.{Acting, done}
use Rattle.pol_rules.specs.Prologues.{namespace_row_at, on_namespace}
use Rattle.pol_rules.specs.Rules.{given, inside, name_taken, time_of}
use Rattle.pol_rules.specs.TableRules.{bad_creation, bad_location, format_key, location_asked, location_outside, location_overlap, other_format, staged}
use Rattle.pol_state.specs.Rows.{Rows}
use Rattle.pol_table_actions.specs.Loading.{loaded}

-- the uuid that two words make (RFC 9562, section 5.4): their 16 bytes, most significant first, with the version 4 and
-- the variant of that standard
unfoldable pub uuid_of : ℕ → ℕ → List ℕ
uuid_of a b = with_version (with_variant (to_be_bytes w128 (a * 2 ^ 64 + b)) variant.RFC4122) version.Random

-- the metadata of a new table that lies at a text
unfoldable pub metadata_at : Rows → Command → CreateTable → List ℕ → TableMetadata
metadata_at s command request location =
    created (uuid_of command.words.a command.words.b) location request.schema request.partition_spec request.write_order (without_key format_key request.properties) (time_of s command)

-- the row of a new table at a location, under the next id
abbrev pub table_placed : Rows → Command → CreateTable → List (List ℕ) → NamespaceRow → TableRow
table_placed s command request location namespace = record {
  id = s.next_id;
  namespace = namespace.id;
  name = request.name;
  version = 0;
  moves = 0;
  location = location;
  metadata = metadata_at s command request (location_text location);
}

abbrev pub table_in : Rows → Command → List (List ℕ) → CreateTable → CatalogRow → Option TableRow
table_in s command levels request catalog =
    option_map (table_placed s command request (location_asked levels request.location request.name catalog)) (namespace_named catalog.id levels s.content)

-- the row of a new table in the namespace of these levels, in the catalogue of a name
unfoldable pub new_table : Rows → Command → List ℕ → List (List ℕ) → CreateTable → Option TableRow
new_table s command name levels request =
    option_and_then (table_in s command levels request) (catalog_named name s.content)

-- the rows with one more table, which takes the next id
abbrev pub with_table : Rows → TableRow → Rows
with_table s row = record s { content = record s.content { tables = rows_with table_id row s.content.tables }; next_id = s.next_id + 1 }

-- the rules on where a new table of a catalogue is to lie, and on what else is asked for with it
abbrev pub location_rules : Rows → List (List ℕ) → CreateTable → CatalogRow → List (Option Refusal)
location_rules s levels request catalog =
    let location = location_asked levels request.location request.name catalog in
    bad_location levels request.location request.name catalog ∷ location_outside location catalog ∷ location_overlap s location
    ∷ staged request.stage_create ∷ other_format request.properties ∷ []

-- creating a table
abbrev pub create_table : Rows → Command → List ℕ → List (List ℕ) → CreateTable → Acting
create_table s command name levels request = record {
  rules = on_namespace s command TableCreate name levels (
      given (namespace_row_at s name levels) (λ (namespace : NamespaceRow). name_taken (part_named namespace.id request.name s.content) request.name)
      ∷ bad_creation request
      ∷ inside s name (bad_location levels request.location request.name)
      ∷ inside s name (λ catalog. location_outside (location_asked levels request.location request.name catalog) catalog)
      ∷ inside s name (λ catalog. location_overlap s (location_asked levels request.location request.name catalog))
      ∷ staged request.stage_create
      ∷ other_format request.properties
      ∷ []);
  after = done s (new_table s command name levels request) (with_table s);
  answer = option_map (loaded false) (new_table s command name levels request);
}
