-- Bodies that commit to tables, as requests read them.
use Rattle.std.proofs.Common.{◌≡◌, ℕ, ◌<◌, All, List, [], ◌∷◌, get_or, length, map, Result, Ok, Err, refl, sym, subst, ap}
use Rattle.std.proofs.Math.Logic.{∥∥₁_map}
use Rattle.std.proofs.lemmas.List.Elements.{All-get_or, All-head, All-tail}
use Rattle.pol_commands.specs.declared.commit.Commit.{Commit}
use Rattle.pol_commitjson.specs.Commits.{AreFormed, IsChangeFormed, IsFormed}
use Rattle.pol_names.specs.declared.identifier.Identifier.{Identifier}
use Rattle.pol_readers.specs.declared.error.ReadError.{ReadError}
use Rattle.pol_readers.specs.declared.error.ReadError.TheVariants as read
use Rattle.pol_readers.specs.Reading.{Reading, Gives}
use Rattle.pol_requests.proofs.RefusedLemmas.{refused}
use Rattle.pol_requests.specs.declared.refused.Unplanned.{Unplanned}
use Rattle.pol_requests.specs.Refused.{Meets}
use Rattle.pol_updates.specs.declared.change.TableChange.{TableChange}
use Rattle.pol_updates.specs.declared.change.TableCommit.{TableCommit}
use Rattle.pol_bodies.specs.Body.{IsUnread}
use Rattle.pol_bodies.specs.CommitBodies.{all_changed_in, changed_in, commit_by, commits_by, committed_to}

-- what a reading of a commit gives has its forms
abbrev IsRead : Reading TableCommit → Type 0
IsRead reading = (commit : TableCommit) → reading ≡ Ok commit → IsFormed commit

-- what is read is committed, however its forms are known
pub commit_asked : (identifier : Identifier) (reading : Reading TableCommit) (formed : IsRead reading) (commit : TableCommit) → reading ≡ Ok commit → (known : ∥ IsFormed commit ∥₁) → commit_by identifier reading formed ≡ Ok (committed_to identifier commit known)
commit_asked identifier reading formed commit is known =
    subst (λ told. (forms : IsRead told) → commit_by identifier told forms ≡ Ok (committed_to identifier commit known)) (sym is) same formed
  where
    same : (forms : IsRead (Ok commit)) → commit_by identifier (Ok commit) forms ≡ Ok (committed_to identifier commit known)
    same forms = ap (λ given. Ok (committed_to identifier commit given)) (squash₁ ∣ forms commit refl ∣₁ known)

-- what isn't read is told by its first bad field
pub unread_commit : (identifier : Identifier) (reading : Reading TableCommit) (formed : IsRead reading) (error : ReadError) (why : Unplanned) → Gives {A = TableCommit} (Err error) reading → IsUnread error why → Meets (commit_by identifier reading formed) (Err why)
unread_commit identifier reading formed (read.Field path) why gives is =
    subst (λ told. (forms : IsRead told) → Meets (commit_by identifier told forms) (Err why)) (sym gives) (λ forms. refused _ _ why is) formed
unread_commit identifier reading formed read.OutOfMemory why gives is =
    subst (λ told. Meets (commit_by identifier reading formed) (Err told)) (sym is) tt

-- the same of several
abbrev AreRead : Reading (List TableChange) → Type 0
AreRead reading = (changes : List TableChange) → reading ≡ Ok changes → AreFormed changes

pub commits_asked : (reading : Reading (List TableChange)) (formed : AreRead reading) (changes : List TableChange) → reading ≡ Ok changes → (known : ∥ AreFormed changes ∥₁) → commits_by reading formed ≡ Ok (all_changed_in changes known)
commits_asked reading formed changes is known =
    subst (λ told. (forms : AreRead told) → commits_by told forms ≡ Ok (all_changed_in changes known)) (sym is) same formed
  where
    same : (forms : AreRead (Ok changes)) → commits_by (Ok changes) forms ≡ Ok (all_changed_in changes known)
    same forms = ap (λ given. Ok (all_changed_in changes given)) (squash₁ ∣ forms changes refl ∣₁ known)

pub unread_commits : (reading : Reading (List TableChange)) (formed : AreRead reading) (error : ReadError) (why : Unplanned) → Gives {A = List TableChange} (Err error) reading → IsUnread error why → Meets (commits_by reading formed) (Err why)
unread_commits reading formed (read.Field path) why gives is =
    subst (λ told. (forms : AreRead told) → Meets (commits_by told forms) (Err why)) (sym gives) (λ forms. refused _ _ why is) formed
unread_commits reading formed read.OutOfMemory why gives is =
    subst (λ told. Meets (commits_by reading formed) (Err told)) (sym is) tt

-- a commit without the fact that its updates have their forms
abbrev pub bare : Commit → TableChange
bare commit = record { identifier = commit.identifier; requirements = commit.requirements; updates = commit.updates }

-- commits of the same parts are the same
pub all_changed : (commits : List Commit) (changes : List TableChange) (formed : ∥ AreFormed changes ∥₁) → map bare commits ≡ changes → commits ≡ all_changed_in changes formed
unfolding all_changed_in
all_changed [] [] formed are = refl
all_changed [] (change ∷ changes) formed are = let contrary : [] ≡ change ∷ changes = are in cc
all_changed (commit ∷ commits) [] formed are = let contrary : bare commit ∷ map bare commits ≡ [] = are in cc
all_changed (commit ∷ commits) (change ∷ changes) formed are =
    let first : bare commit ≡ change = cc in
    let others : map bare commits ≡ changes = cc in
    λ i. same commit change first (∥∥₁_map formed (All-head IsChangeFormed change changes)) i ∷ all_changed commits changes (∥∥₁_map formed (All-tail IsChangeFormed change changes)) others i
  where
    same : (commit : Commit) (change : TableChange) → bare commit ≡ change → (known : ∥ IsChangeFormed change ∥₁) → commit ≡ changed_in change known
    same commit change is = subst (λ one. (known : ∥ IsChangeFormed one ∥₁) → commit ≡ changed_in one known) is (λ known. ap (λ given. changed_in (bare commit) given) (squash₁ commit.formed known))

-- each of the changes that are read has its forms
pub change_formed : (changes : List TableChange) (i : ℕ) (change : TableChange) → ∥ AreFormed changes ∥₁ → i < length changes → change ≡ get_or changes i change → ∥ IsChangeFormed change ∥₁
change_formed changes i change formed inside is =
    ∥∥₁_map formed (λ all. subst IsChangeFormed (sym is) (All-get_or IsChangeFormed changes i change inside all))
