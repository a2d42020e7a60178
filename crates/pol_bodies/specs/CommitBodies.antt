-- The bodies that commit to one table and to several, as requests read them.
use Rattle.std.specs.Prelude.{◌≡◌, ℕ, List, [], ◌∷◌, Result, Ok, Err, refl}
use Rattle.std.proofs.Math.Logic.{∥∥₁_map}
use Rattle.std.proofs.lemmas.List.Elements.{All-head, All-tail}
use Rattle.pol_commands.specs.declared.commit.Commit.{Commit}
use Rattle.pol_commitjson.specs.Commits.{AreFormed, IsChangeFormed, IsFormed, table_commit, transaction}
use Rattle.pol_commitjson.proofs.FormLemmas.{commit_formed, transaction_formed}
use Rattle.pol_names.specs.declared.identifier.Identifier.{Identifier}
use Rattle.pol_readers.specs.Path.{path_text}
use Rattle.pol_readers.specs.Reading.{Reading}
use Rattle.pol_readers.specs.Shape.{body}
use Rattle.pol_requests.specs.declared.refused.RouteRefused.{RouteRefused}
use Rattle.pol_requests.specs.declared.refused.RouteRefused.TheVariants.{Unreadable}
use Rattle.pol_updates.specs.declared.change.TableChange.{TableChange}
use Rattle.pol_updates.specs.declared.change.TableCommit.{TableCommit}

-- what a body commits to a table, as a command has it: its updates have their forms
abbrev pub committed_to : Identifier → (read : TableCommit) → ∥ IsFormed read ∥₁ → Commit
committed_to identifier read formed = record {
  identifier = identifier;
  requirements = read.requirements;
  updates = read.updates;
  formed = formed;
}

abbrev pub commit_by : Identifier → (reading : Reading TableCommit) → ((read : TableCommit) → reading ≡ Ok read → IsFormed read) → Result Commit RouteRefused
commit_by identifier (Ok read) formed = Ok (committed_to identifier read ∣ formed read refl ∣₁)
commit_by identifier (Err path) formed = Err (Unreadable (path_text path))

pub read_commit_formed : (bytes : List ℕ) (read : TableCommit) → body table_commit bytes ≡ Ok read → IsFormed read
read_commit_formed bytes read is = commit_formed bytes (Ok read) is

unfoldable pub commit_of : Identifier → List ℕ → Result Commit RouteRefused
commit_of identifier bytes = commit_by identifier (body table_commit bytes) (read_commit_formed bytes)

-- and what it commits to several tables
abbrev pub changed_in : (read : TableChange) → ∥ IsChangeFormed read ∥₁ → Commit
changed_in read formed = record {
  identifier = read.identifier;
  requirements = read.requirements;
  updates = read.updates;
  formed = formed;
}

unfoldable pub all_changed_in : (read : List TableChange) → ∥ AreFormed read ∥₁ → List Commit
all_changed_in [] formed = []
all_changed_in (change ∷ changes) formed =
    changed_in change (∥∥₁_map formed (All-head IsChangeFormed change changes)) ∷ all_changed_in changes (∥∥₁_map formed (All-tail IsChangeFormed change changes))

abbrev pub commits_by : (reading : Reading (List TableChange)) → ((read : List TableChange) → reading ≡ Ok read → AreFormed read) → Result (List Commit) RouteRefused
commits_by (Ok read) formed = Ok (all_changed_in read ∣ formed read refl ∣₁)
commits_by (Err path) formed = Err (Unreadable (path_text path))

pub read_transaction_formed : (bytes : List ℕ) (read : List TableChange) → body transaction bytes ≡ Ok read → AreFormed read
read_transaction_formed bytes read is = transaction_formed bytes (Ok read) is

unfoldable pub commits_of : List ℕ → Result (List Commit) RouteRefused
commits_of bytes = commits_by (body transaction bytes) (read_transaction_formed bytes)
