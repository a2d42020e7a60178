-- Commits to one table and to several.
use Rattle.std.specs.Prelude.{ℕ, List, [], ◌∷◌, Option, None, Some}
use Rattle.pol_commands.specs.declared.command.Command.{Command}
use Rattle.pol_commands.specs.declared.commit.Commit.{Commit}
use Rattle.pol_commands.specs.declared.reply.Answer.{Answer}
use Rattle.pol_commands.specs.declared.reply.Answer.TheVariants.{TableCommitted, TransactionCommitted}
use Rattle.pol_commands.specs.declared.reply.Refusal.{Refusal}
use Rattle.pol_content.specs.Content.{catalog_named}
use Rattle.pol_content.specs.declared.rows.CatalogRow.{CatalogRow}
use Rattle.pol_state.specs.Rows.{Rows}
use Rattle.pol_rules.specs.Acting.{Acting}
use Rattle.pol_rules.specs.Needs.{forbidden}
use Rattle.pol_rules.specs.Rules.{inside, no_catalogue, time_of, unauthenticated}
use Rattle.pol_table_actions.specs.Loading.{metadata_location}
use Rattle.pol_table_rows.specs.declared.row.TableRow.{TableRow}
use Rattle.pol_commit_actions.specs.Outcome.{CommitTo, CommittedTable, commit_outcome, committed_by, refused_by, rows_after, tables_left}
use Rattle.pol_commit_actions.specs.Rules.{any_over_limit, any_unserved, bad_location_from, commits_at, moved_onto, moved_outside, no_namespaces, no_tables, table_twice, too_many_tables, write_needs}

-- each commit with its table in the catalogue that was found
abbrev pub commits_found : Rows → List Commit → Option CatalogRow → List CommitTo
commits_found s commits None = []
commits_found s commits (Some catalog) = commits_at s commits catalog

-- and in the catalogue of a name
unfoldable pub commits_in : Rows → List ℕ → List Commit → List CommitTo
commits_in s name commits = commits_found s commits (catalog_named name s.content)

-- the tables before and after them, at the command's time
unfoldable pub tables_committed : Rows → Command → List ℕ → List Commit → List CommittedTable
tables_committed s command name commits =
    committed_by (commits_in s name commits) (commit_outcome (time_of s command) (commits_in s name commits))

-- the rules of commits, before others
abbrev pub committing : Rows → Command → List ℕ → List Commit → List (Option Refusal) → List (Option Refusal)
committing s command name commits rules =
    unauthenticated s command
    ∷ no_catalogue s name
    ∷ inside s name (λ catalog. forbidden s command (write_needs s commits catalog))
    ∷ inside s name (no_namespaces s commits)
    ∷ inside s name (no_tables s commits)
    ∷ table_twice (commits_in s name commits)
    ∷ refused_by (commit_outcome (time_of s command) (commits_in s name commits))
    ∷ bad_location_from 0 (tables_committed s command name commits)
    ∷ inside s name (moved_outside (tables_committed s command name commits))
    ∷ moved_onto s (tables_committed s command name commits)
    ∷ any_unserved commits
    ∷ too_many_tables commits
    ∷ any_over_limit (tables_committed s command name commits)
    ∷ rules

-- the rows with these tables in the places of their own
abbrev pub with_tables : Rows → List TableRow → Rows
with_tables s rows = record s { content = record s.content { tables = tables_left rows s.content.tables } }

-- the rows once commits are done
abbrev pub rows_committed : Rows → List CommittedTable → Rows
rows_committed s tables = with_tables s (rows_after tables)

-- the answer to a commit to one table
abbrev pub committed_answer : TableRow → Answer
committed_answer row = TableCommitted (metadata_location row) row.metadata

abbrev pub answer_first : List CommittedTable → Option Answer
answer_first [] = None
answer_first (one ∷ others) = Some (committed_answer one.after)

-- a commit to one table
abbrev pub commit_table : Rows → Command → List ℕ → Commit → Acting
commit_table s command name commit = record {
  rules = committing s command name (commit ∷ []) [];
  after = rows_committed s (tables_committed s command name (commit ∷ []));
  answer = answer_first (tables_committed s command name (commit ∷ []));
}

-- commits to several tables, all or none of which are done
abbrev pub commit_transaction : Rows → Command → List ℕ → List Commit → Acting
commit_transaction s command name commits = record {
  rules = committing s command name commits [];
  after = rows_committed s (tables_committed s command name commits);
  answer = Some TransactionCommitted;
}
