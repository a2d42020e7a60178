-- The actions on views that are there, but those that change one.
use Rattle.std.specs.Prelude.{ℕ, List, [], map, Some, option_map}
use Rattle.pol_access.specs.Access.{grants_on_dropped}
use Rattle.pol_access.specs.declared.privilege.Privilege.TheVariants.{ViewDrop, ViewList, ViewReadProperties}
use Rattle.pol_access.specs.declared.securable.Securable.TheVariants as securable
use Rattle.pol_commands.specs.declared.command.Command.{Command}
use Rattle.pol_commands.specs.declared.reply.Answer.{Answer}
use Rattle.pol_commands.specs.declared.reply.Answer.TheVariants.{ViewDropped, ViewLoaded, ViewThere, ViewsListed}
use Rattle.pol_content.specs.declared.rows.NamespaceRow.{NamespaceRow}
use Rattle.pol_meta.specs.FileNames.{metadata_file}
use Rattle.pol_names.specs.declared.identifier.Identifier.{Identifier}
use Rattle.pol_tables.specs.Table.{rows_without}
use Rattle.pol_view_rows.specs.Views.{view_id, views_in}
use Rattle.pol_view_rows.specs.declared.row.ViewRow.{ViewRow}
use Rattle.pol_rules.specs.Acting.{Acting, done, reading}
use Rattle.pol_rules.specs.Prologues.{at_view, namespace_row_at, on_namespace, view_row_at}
use Rattle.pol_state.specs.Rows.{Rows}
use Rattle.pol_table_actions.specs.Tables.{identifier_in}

-- the views of a namespace, in byte order of their names
abbrev pub listed : Rows → NamespaceRow → List Identifier
listed s row = map (λ (view : ViewRow). identifier_in row.levels view.name) (views_in row.id s.content.views)

-- listing them
abbrev pub list_views : Rows → Command → List ℕ → List (List ℕ) → Acting
list_views s command name levels =
    reading s (on_namespace s command ViewList name levels []) (option_map (λ row. ViewsListed (listed s row)) (namespace_row_at s name levels))

-- where the metadata of a view is
abbrev pub metadata_location : ViewRow → List ℕ
metadata_location row = metadata_file row.metadata.location row.version row.metadata.view_uuid

-- the answer that shows a view
abbrev pub loaded : ViewRow → Answer
loaded row = ViewLoaded (metadata_location row) row.metadata

-- loading a view
abbrev pub load_view : Rows → Command → List ℕ → Identifier → Acting
load_view s command name identifier =
    reading s (at_view s command ViewReadProperties name identifier []) (option_map loaded (view_row_at s name identifier))

-- telling whether a view is there
abbrev pub head_view : Rows → Command → List ℕ → Identifier → Acting
head_view s command name identifier = reading s (at_view s command ViewReadProperties name identifier []) (Some ViewThere)

-- the rows without a view, and the grants on it
abbrev pub without_view : Rows → ViewRow → Rows
without_view s row = record s { access = grants_on_dropped (securable.View row.id) s.access; content = record s.content { views = rows_without view_id row.id s.content.views } }

-- dropping a view
abbrev pub drop_view : Rows → Command → List ℕ → Identifier → Acting
drop_view s command name identifier = record {
  rules = at_view s command ViewDrop name identifier [];
  after = done s (view_row_at s name identifier) (without_view s);
  answer = Some ViewDropped;
}
