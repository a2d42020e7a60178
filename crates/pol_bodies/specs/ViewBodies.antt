-- The bodies that create a view and commit to one, as requests read them.
use Rattle.std.specs.Prelude.{◌≡◌, ℕ, List, All, Result, Ok, Err, refl}
use Rattle.std.proofs.Common.{lit<}
use Rattle.pol_commands.specs.Views.{HaveViewForms}
use Rattle.pol_commands.specs.declared.create_view.CreateView.{CreateView}
use Rattle.pol_commands.specs.declared.view_commit.ViewCommit.{ViewCommit}
use Rattle.pol_names.specs.declared.identifier.Identifier.{Identifier}
use Rattle.pol_readers.specs.Path.{path_text}
use Rattle.pol_readers.specs.Reading.{Reading}
use Rattle.pol_readers.specs.Shape.{body}
use Rattle.pol_requests.specs.declared.refused.RouteRefused.{RouteRefused}
use Rattle.pol_requests.specs.declared.refused.RouteRefused.TheVariants.{Unreadable}
use Rattle.pol_views.specs.Forms.{HasViewForm}
use Rattle.pol_views.specs.declared.request.CreateView.{CreateView as ViewBody}
use Rattle.pol_views.specs.declared.request.ViewCommit.{ViewCommit as CommitBody}
use Rattle.pol_viewjson.specs.Requests.{create_view, view_commit, IsFormed}
use Rattle.pol_viewjson.proofs.FormLemmas.{commit_formed, create_formed}

-- what a body asks for, as a command has it: its parts have their forms
abbrev pub asked_for : (request : ViewBody) → ∥ HaveViewForms request.schema request.view_version ∥₁ → CreateView
asked_for request formed = record {
  name = request.name;
  location = request.location;
  schema = request.schema;
  view_version = request.view_version;
  properties = request.properties;
  formed = formed;
}

-- the forms of the parts do not hang on the moment
pub have_forms : (request : ViewBody) → IsFormed request → HaveViewForms request.schema request.view_version
have_forms request formed = let now = formed 0 (lit< tt) in (now.schema_form, now.version_time)

abbrev pub asked_by : (reading : Reading ViewBody) → ((request : ViewBody) → reading ≡ Ok request → IsFormed request) → Result CreateView RouteRefused
asked_by (Ok request) formed = Ok (asked_for request ∣ have_forms request (formed request refl) ∣₁)
asked_by (Err path) formed = Err (Unreadable (path_text path))

-- what is read of a body has its forms
pub read_formed : (bytes : List ℕ) (request : ViewBody) → body create_view bytes ≡ Ok request → IsFormed request
read_formed bytes request is = create_formed bytes (Ok request) is

unfoldable pub create_view_of : List ℕ → Result CreateView RouteRefused
create_view_of bytes = asked_by (body create_view bytes) (read_formed bytes)

-- what a body commits to a view, as a command has it: its updates have their forms
abbrev pub committed_to : Identifier → (read : CommitBody) → ∥ All HasViewForm read.updates ∥₁ → ViewCommit
committed_to identifier read formed = record {
  identifier = identifier;
  requirements = read.requirements;
  updates = read.updates;
  formed = formed;
}

abbrev pub commit_by : Identifier → (reading : Reading CommitBody) → ((read : CommitBody) → reading ≡ Ok read → All HasViewForm read.updates) → Result ViewCommit RouteRefused
commit_by identifier (Ok read) formed = Ok (committed_to identifier read ∣ formed read refl ∣₁)
commit_by identifier (Err path) formed = Err (Unreadable (path_text path))

pub read_commit_formed : (bytes : List ℕ) (read : CommitBody) → body view_commit bytes ≡ Ok read → All HasViewForm read.updates
read_commit_formed bytes read is = commit_formed bytes (Ok read) is

unfoldable pub view_commit_of : Identifier → List ℕ → Result ViewCommit RouteRefused
view_commit_of identifier bytes = commit_by identifier (body view_commit bytes) (read_commit_formed bytes)
