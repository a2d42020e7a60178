-- Renaming a table, which may move it into another namespace of its catalogue.
use Rattle.std.specs.Prelude.{ℕ, List, [], ◌∷◌, Option, Some, option_and_then, option_map}
use Rattle.pol_commands.specs.declared.command.Command.{Command}
use Rattle.pol_commands.specs.declared.reply.Answer.TheVariants.{TableRenamed}
use Rattle.pol_content.specs.Content.{part_named}
use Rattle.pol_content.specs.declared.rows.NamespaceRow.{NamespaceRow}
use Rattle.pol_names.specs.declared.identifier.Identifier.{Identifier}
use Rattle.pol_state.specs.Rows.{Rows}
use Rattle.pol_rules.specs.Acting.{Acting, done}
use Rattle.pol_rules.specs.Needs.{forbidden}
use Rattle.pol_rules.specs.Prologues.{namespace_row_at, table_row_at}
use Rattle.pol_rules.specs.Rules.{given, inside, name_taken, no_catalogue, no_namespace, unauthenticated}
use Rattle.pol_rules.specs.TableRules.{no_table}
use Rattle.pol_table_rows.specs.Tables.{table_id}
use Rattle.pol_table_rows.specs.declared.row.TableRow.{TableRow}
use Rattle.pol_tables.specs.Table.{rows_with}
use Rattle.pol_commit_actions.specs.Rules.{rename_needs}

-- a table under another name, in this namespace; all else of it stays
abbrev pub renamed : List ℕ → TableRow → NamespaceRow → TableRow
renamed name row namespace = record row { namespace = namespace.id; name = name }

-- the table that is renamed, as it is to be
unfoldable pub renamed_table : Rows → List ℕ → Identifier → Identifier → Option TableRow
renamed_table s name source destination =
    option_and_then (λ (row : TableRow). option_map (renamed destination.name row) (namespace_row_at s name destination.namespace)) (table_row_at s name source)

-- the rows with a table that is altered
abbrev pub with_altered : Rows → TableRow → Rows
with_altered s row = record s { content = record s.content { tables = rows_with table_id row s.content.tables } }

-- renaming a table
abbrev pub rename_table : Rows → Command → List ℕ → Identifier → Identifier → Acting
rename_table s command name source destination = record {
  rules =
      unauthenticated s command
      ∷ no_catalogue s name
      ∷ inside s name (λ catalog. forbidden s command (rename_needs s source destination catalog))
      ∷ inside s name (λ catalog. no_namespace s catalog.id source.namespace)
      ∷ inside s name (λ catalog. no_namespace s catalog.id destination.namespace)
      ∷ inside s name (no_table s source)
      ∷ given (namespace_row_at s name destination.namespace) (λ namespace. name_taken (part_named namespace.id destination.name s.content) destination.name)
      ∷ [];
  after = done s (renamed_table s name source destination) (with_altered s);
  answer = Some TableRenamed;
}
