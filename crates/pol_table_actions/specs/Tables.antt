-- The actions on tables that are there, but loading.
use Rattle.std.specs.Prelude.{ℕ, List, [], map, Some, option_map}
use Rattle.pol_access.specs.Access.{grants_on_dropped}
use Rattle.pol_access.specs.declared.privilege.Privilege.TheVariants.{TableDrop, TableList, TableReadProperties}
use Rattle.pol_access.specs.declared.securable.Securable.TheVariants as securable
use Rattle.pol_commands.specs.declared.command.Command.{Command}
use Rattle.pol_commands.specs.declared.reply.Answer.TheVariants.{MetricsReported, TableDropped, TableThere, TablesListed}
use Rattle.pol_content.specs.declared.rows.NamespaceRow.{NamespaceRow}
use Rattle.pol_names.specs.declared.identifier.Identifier.{Identifier}
use Rattle.pol_table_rows.specs.Tables.{table_id, tables_in}
use Rattle.pol_table_rows.specs.declared.row.TableRow.{TableRow}
use Rattle.pol_tables.specs.Table.{rows_without}
use Rattle.pol_rules.specs.Acting.{Acting, done, reading}
use Rattle.pol_rules.specs.Prologues.{at_table, namespace_row_at, on_namespace, table_row_at}
use Rattle.pol_state.specs.Rows.{Rows}

-- a name in the namespace of these levels
abbrev pub identifier_in : List (List ℕ) → List ℕ → Identifier
identifier_in levels name = record { namespace = levels; name = name }

-- the tables of a namespace, in byte order of their names
abbrev pub listed : Rows → NamespaceRow → List Identifier
listed s row = map (λ (table : TableRow). identifier_in row.levels table.name) (tables_in row.id s.content.tables)

-- listing them
abbrev pub list_tables : Rows → Command → List ℕ → List (List ℕ) → Acting
list_tables s command name levels =
    reading s (on_namespace s command TableList name levels []) (option_map (λ row. TablesListed (listed s row)) (namespace_row_at s name levels))

-- telling whether a table is there
abbrev pub head_table : Rows → Command → List ℕ → Identifier → Acting
head_table s command name identifier = reading s (at_table s command TableReadProperties name identifier []) (Some TableThere)

-- taking a report on a table
abbrev pub report_metrics : Rows → Command → List ℕ → Identifier → Acting
report_metrics s command name identifier =
    reading s (at_table s command TableReadProperties name identifier []) (Some MetricsReported)

-- the rows without a table, and the grants on it
abbrev pub without_table : Rows → TableRow → Rows
without_table s row = record s { access = grants_on_dropped (securable.Table row.id) s.access; content = record s.content { tables = rows_without table_id row.id s.content.tables } }

-- dropping a table
abbrev pub drop_table : Rows → Command → List ℕ → Identifier → Acting
drop_table s command name identifier = record {
  rules = at_table s command TableDrop name identifier [];
  after = done s (table_row_at s name identifier) (without_table s);
  answer = Some TableDropped;
}
