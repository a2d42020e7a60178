-- What stops the rules of commits stops a commit.
use Rattle.std.proofs.Common.{◌≡◌, ◌∙◌, ℕ, List, Option, Some, Result, Ok, Err, ap, refl, sym}
use Rattle.std.specs.Bool.{⊤}
use Rattle.std.specs.Result.{IsErrAnd}
use Rattle.pol_commands.specs.declared.command.Command.{Command}
use Rattle.pol_commands.specs.declared.commit.Commit.{Commit}
use Rattle.pol_commands.specs.declared.reply.Answer.{Answer}
use Rattle.pol_commands.specs.declared.reply.Refusal.{Refusal}
use Rattle.pol_state.specs.Rows.{Rows}
use Rattle.pol_rules.specs.Judged.{Does, Enters}
use Rattle.pol_rules.specs.declared.rules.Acted.{Acted}
use Rattle.pol_rules.specs.declared.rules.Undone.{Undone}
use Rattle.pol_rules.proofs.JudgedLemmas.{entered-stopped}
use Rattle.pol_commit_actions.specs.Commits.{commits_found, commits_in, committing, tables_committed}
use Rattle.pol_commit_actions.specs.Outcome.{CommitTo, all_committed, commit_outcome, committed_by}
use Rattle.pol_commit_actions.specs.Rules.{commits_at}
use Rattle.pol_content.specs.Content.{catalog_named}
use Rattle.pol_content.specs.declared.rows.CatalogRow.{CatalogRow}
use Rattle.pol_meta.specs.declared.metadata.TableMetadata.{TableMetadata}
use Rattle.pol_rules.specs.Rules.{given, inside, time_of}

module _ (s : Rows) (command : Command) (rules : List (Option Refusal)) (after : Rows) (answer : Option Answer) (why : Undone) (result : Result Acted Undone) (told : IsErrAnd result (λ one. one ≡ why)) where
  pub committing_stops : (name : List ℕ) (commits : List Commit) → Enters {T = ⊤} (committing s command name commits) (λ _. ⊤) (Err why)
      → Does s command (record { rules = committing s command name commits rules; after = after; answer = answer }) result
  committing_stops name commits entered =
      entered-stopped {T = ⊤} (λ _. ⊤) (committing s command name commits) s command (record { rules = committing s command name commits rules; after = after; answer = answer }) rules why result refl (λ passes. passes) told entered

-- the tables that are committed to, once they are found
module _ (s : Rows) (name : List ℕ) (commits : List Commit) (catalog : CatalogRow) (is : catalog_named name s.content ≡ Some catalog) where
  pub inside-is : (rule : CatalogRow → Option Refusal) → inside s name rule ≡ rule catalog
  inside-is rule = ap (λ found. given found rule) is

  pub commits-are : (targets : List CommitTo) → targets ≡ commits_at s commits catalog → commits_in s name commits ≡ targets
  unfolding commits_in
  commits-are targets are = ap (commits_found s commits) is ∙ sym are

-- and so are the tables after
pub tables-are : (s : Rows) (command : Command) (name : List ℕ) (commits : List Commit) (targets : List CommitTo) (metas : List TableMetadata) → commits_in s name commits ≡ targets → commit_outcome (time_of s command) targets ≡ Ok metas → tables_committed s command name commits ≡ all_committed targets metas
unfolding tables_committed
tables-are s command name commits targets metas are made =
    ap (λ found. committed_by found (commit_outcome (time_of s command) found)) are ∙ ap (committed_by targets) made
