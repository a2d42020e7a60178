-- What commits and renaming owe.
use Rattle.std.proofs.Common.{◌≡◌, ℕ, List, [], ◌∷◌, Option, None, Some, option_and_then, refl, sym, ap, ◌∙◌}
use Rattle.std.specs.Option.{option_map}
use Rattle.pol_commands.specs.declared.command.Command.{Command}
use Rattle.pol_commands.specs.declared.commit.Commit.{Commit}
use Rattle.pol_content.specs.Content.{part_named}
use Rattle.pol_content.specs.declared.rows.NamespaceRow.{NamespaceRow}
use Rattle.pol_names.specs.declared.identifier.Identifier.{Identifier}
use Rattle.pol_state.specs.Rows.{Rows}
use Rattle.pol_rules.specs.Acting.{Acting}
use Rattle.pol_rules.specs.Live.{live_part}
use Rattle.pol_rules.specs.Prologues.{namespace_row_at, table_row_at}
use Rattle.pol_rules.proofs.FairLemmas.{none-fair, ◌⊳◌, fair-caller, fair-given, fair-inside, fair-name_taken, fair-need, fair-no_catalogue, fair-no_namespace, fair-no_table}
use Rattle.pol_rules.proofs.OwesLemmas.{owes-apart, owes-done, Owes, OwesRows}
use Rattle.pol_table_actions.proofs.ActionLemmas.{table-own}
use Rattle.pol_table_rows.specs.Tables.{table_id}
use Rattle.pol_table_rows.specs.declared.row.TableRow.{TableRow}
use Rattle.pol_tables.specs.Table.{row_of}
use Rattle.pol_tables.proofs.TableLemmas.{some_is}
use Rattle.pol_commit_actions.specs.Commits.{commit_table, commit_transaction, commits_in, rows_committed, tables_committed}
use Rattle.pol_commit_actions.specs.Rules.{commits_at}
use Rattle.pol_commit_actions.specs.Renaming.{rename_table, renamed, renamed_table, with_altered}
use Rattle.pol_commit_actions.proofs.CommittedLemmas.{orderly-committed}
use Rattle.pol_commit_actions.proofs.RenamedLemmas.{orderly-renamed}
use Rattle.pol_commit_actions.proofs.ChangesLemmas.{leads-committed, leads-put}
use Rattle.pol_commit_actions.proofs.FairLemmas.{fair-committing}

module _ (s : Rows) (command : Command) where
  abbrev live : Rows
  live = live_part s

  -- each action owes this, where it is like in the live part
  abbrev OwesAlike : (Rows → Acting) → Type 0
  OwesAlike act = Owes s command (act s) (act live)

  rows-owed : (name : List ℕ) (commits : List Commit)
      → OwesRows s command (rows_committed s (tables_committed s command name commits)) (rows_committed live (tables_committed live command name commits))
  unfolding commits_at commits_in tables_committed
  rows-owed name commits =
      let tables = tables_committed s command name commits in
      owes-apart s command (rows_committed s tables) refl (λ sound. leads-committed s command sound tables)

  pub owes-commit_table : (name : List ℕ) (commit : Commit) → OwesAlike (λ t. commit_table t command name commit)
  unfolding commits_at commits_in tables_committed
  owes-commit_table name commit = record {
    rows = rows-owed name (commit ∷ []);
    orderly = λ sound within passes. orderly-committed s command sound within name (commit ∷ []) passes;
    fair = fair-committing command name (commit ∷ []) none-fair;
    answer = λ sound. refl;
  }

  pub owes-commit_transaction : (name : List ℕ) (commits : List Commit) → OwesAlike (λ t. commit_transaction t command name commits)
  owes-commit_transaction name commits = record {
    rows = rows-owed name commits;
    orderly = λ sound within passes. orderly-committed s command sound within name commits passes;
    fair = fair-committing command name commits none-fair;
    answer = λ sound. refl;
  }

  -- the table that is renamed has the id of one that is there
  renamed-own : (destination : Identifier) (row : TableRow) (found : Option TableRow) (within : Option NamespaceRow)
      → ((old : TableRow) → found ≡ Some old → row_of table_id old.id s.content.tables ≡ Some old)
      → option_and_then (λ (old : TableRow). option_map (renamed destination.name old) within) found ≡ Some row
      → (old : TableRow) × (row_of table_id row.id s.content.tables ≡ Some old)
  renamed-own destination row None within own made = let contrary : None ≡ Some row = made in cc
  renamed-own destination row (Some old) None own made = let contrary : None ≡ Some row = made in cc
  renamed-own destination row (Some old) (Some namespace) own made =
      let is = some_is (renamed destination.name old namespace) row made in
      (old, ap (λ (one : TableRow). row_of table_id one.id s.content.tables) (sym is) ∙ own old refl)

  pub owes-rename_table : (name : List ℕ) (source destination : Identifier) → OwesAlike (λ t. rename_table t command name source destination)
  unfolding renamed_table namespace_row_at table_row_at
  owes-rename_table name source destination = record {
    rows = owes-done s command (renamed_table s name source destination) (with_altered s) (with_altered live) (λ row made. owes-apart s command (with_altered s row) refl (λ sound.
        let there = renamed-own destination row (table_row_at s name source) (namespace_row_at s name destination.namespace) (λ old found. table-own s command sound name source old found) made in
        leads-put s command sound row there.0 there.1));
    orderly = λ sound within passes. orderly-renamed s command sound within name source destination passes;
    fair = fair-caller command
        ⊳ fair-no_catalogue name
        ⊳ fair-inside name (λ catalog. fair-need command _)
        ⊳ fair-inside name (λ catalog. fair-no_namespace catalog.id source.namespace)
        ⊳ fair-inside name (λ catalog. fair-no_namespace catalog.id destination.namespace)
        ⊳ fair-inside name (fair-no_table source)
        ⊳ fair-given (namespace_row_at s name destination.namespace) (λ (namespace : NamespaceRow). fair-name_taken (part_named namespace.id destination.name s.content) destination.name)
        ⊳ none-fair;
    answer = λ sound. refl;
  }
