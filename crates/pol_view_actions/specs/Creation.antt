-- Creating a view.
use Rattle.std.specs.Prelude.{ℕ, ◌+◌, List, [], ◌∷◌, Option, option_and_then}
use Rattle.std.specs.Option.{option_map}
use Rattle.pol_access.specs.declared.privilege.Privilege.TheVariants.{ViewCreate}
use Rattle.pol_commands.specs.declared.command.Command.{Command}
use Rattle.pol_commands.specs.declared.create_view.CreateView.{CreateView}
use Rattle.pol_content.specs.Content.{catalog_named, namespace_named, part_named}
use Rattle.pol_content.specs.declared.rows.CatalogRow.{CatalogRow}
use Rattle.pol_content.specs.declared.rows.NamespaceRow.{NamespaceRow}
use Rattle.pol_locations.specs.Location.{location_text}
use Rattle.pol_tables.specs.Table.{rows_with}
use Rattle.pol_views.specs.Creation.{created_view}
use Rattle.pol_views.specs.declared.metadata.ViewMetadata.{ViewMetadata}
use Rattle.pol_view_rows.specs.Views.{view_id}
use Rattle.pol_view_rows.specs.declared.row.ViewRow.{ViewRow}
use Rattle.pol_rules.specs.Acting.{Acting, done}
use Rattle.pol_rules.specs.Prologues.{namespace_row_at, on_namespace}
use Rattle.pol_rules.specs.Rules.{given, inside, name_taken, time_of}
use Rattle.pol_rules.specs.TableRules.{bad_location, location_asked, location_outside}
use Rattle.pol_state.specs.Rows.{Rows}
use Rattle.pol_table_actions.specs.Creation.{uuid_of}
use Rattle.pol_view_actions.specs.Views.{loaded}

-- the metadata of a new view that lies at a text
unfoldable pub metadata_at : Rows → Command → CreateView → List ℕ → ViewMetadata
metadata_at s command request location =
    created_view (uuid_of command.words.a command.words.b) location request.schema request.view_version request.properties (time_of s command)

-- the row of a new view at a location, under the next id
abbrev pub view_placed : Rows → Command → CreateView → List (List ℕ) → NamespaceRow → ViewRow
view_placed s command request location namespace = record {
  id = s.next_id;
  namespace = namespace.id;
  name = request.name;
  version = 0;
  metadata = metadata_at s command request (location_text location);
}

abbrev pub view_in : Rows → Command → List (List ℕ) → CreateView → CatalogRow → Option ViewRow
view_in s command levels request catalog =
    option_map (view_placed s command request (location_asked levels request.location request.name catalog)) (namespace_named catalog.id levels s.content)

-- the row of a new view in the namespace of these levels, in the catalogue of a name
unfoldable pub new_view : Rows → Command → List ℕ → List (List ℕ) → CreateView → Option ViewRow
new_view s command name levels request =
    option_and_then (view_in s command levels request) (catalog_named name s.content)

-- the rows with one more view, which takes the next id
abbrev pub with_view : Rows → ViewRow → Rows
with_view s row = record s { content = record s.content { views = rows_with view_id row s.content.views }; next_id = s.next_id + 1 }

-- creating a view
abbrev pub create_view : Rows → Command → List ℕ → List (List ℕ) → CreateView → Acting
create_view s command name levels request = record {
  rules = on_namespace s command ViewCreate name levels (
      given (namespace_row_at s name levels) (λ (namespace : NamespaceRow). name_taken (part_named namespace.id request.name s.content) request.name)
      ∷ inside s name (bad_location levels request.location request.name)
      ∷ inside s name (λ catalog. location_outside (location_asked levels request.location request.name catalog) catalog)
      ∷ []);
  after = done s (new_view s command name levels request) (with_view s);
  answer = option_map loaded (new_view s command name levels request);
}
