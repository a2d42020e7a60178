-- Bodies that create views and commit to them, as requests read them.
use Rattle.std.proofs.Common.{◌≡◌, All, Ok, Err, refl, sym, subst, ap}
use Rattle.pol_commands.specs.Views.{HaveViewForms}
use Rattle.pol_names.specs.declared.identifier.Identifier.{Identifier}
use Rattle.pol_readers.specs.declared.error.ReadError.{ReadError}
use Rattle.pol_readers.specs.declared.error.ReadError.TheVariants as read
use Rattle.pol_readers.specs.Reading.{Reading, Gives}
use Rattle.pol_requests.proofs.RefusedLemmas.{refused}
use Rattle.pol_requests.specs.declared.refused.Unplanned.{Unplanned}
use Rattle.pol_requests.specs.Refused.{Meets}
use Rattle.pol_views.specs.Forms.{HasViewForm}
use Rattle.pol_views.specs.declared.request.CreateView.{CreateView as ViewBody}
use Rattle.pol_views.specs.declared.request.ViewCommit.{ViewCommit as CommitBody}
use Rattle.pol_viewjson.specs.Requests.{IsFormed}
use Rattle.pol_bodies.specs.Body.{IsUnread}
use Rattle.pol_bodies.specs.ViewBodies.{asked_by, asked_for, commit_by, committed_to, have_forms}

-- what a reading gives has its forms
abbrev AreRead : Reading ViewBody → Type 0
AreRead reading = (request : ViewBody) → reading ≡ Ok request → IsFormed request

-- what is read is asked for, however its forms are known
pub asked : (reading : Reading ViewBody) (formed : AreRead reading) (request : ViewBody) → reading ≡ Ok request → (known : ∥ HaveViewForms request.schema request.view_version ∥₁) → asked_by reading formed ≡ Ok (asked_for request known)
asked reading formed request is known = subst (λ told. (forms : AreRead told) → asked_by told forms ≡ Ok (asked_for request known)) (sym is) same formed
  where
    same : (forms : AreRead (Ok request)) → asked_by (Ok request) forms ≡ Ok (asked_for request known)
    same forms = ap (λ given. Ok (asked_for request given)) (squash₁ ∣ have_forms request (forms request refl) ∣₁ known)

-- what isn't read is told by its first bad field
pub unread_view : (reading : Reading ViewBody) (formed : AreRead reading) (error : ReadError) (why : Unplanned) → Gives {A = ViewBody} (Err error) reading → IsUnread error why → Meets (asked_by reading formed) (Err why)
unread_view reading formed (read.Field path) why gives is =
    subst (λ told. (forms : AreRead told) → Meets (asked_by told forms) (Err why)) (sym gives) (λ forms. refused _ _ why is) formed
unread_view reading formed read.OutOfMemory why gives is = subst (λ told. Meets (asked_by reading formed) (Err told)) (sym is) tt

-- the same of a commit
abbrev IsRead : Reading CommitBody → Type 0
IsRead reading = (commit : CommitBody) → reading ≡ Ok commit → All HasViewForm commit.updates

pub commit_asked : (identifier : Identifier) (reading : Reading CommitBody) (formed : IsRead reading) (commit : CommitBody) → reading ≡ Ok commit → (known : ∥ All HasViewForm commit.updates ∥₁) → commit_by identifier reading formed ≡ Ok (committed_to identifier commit known)
commit_asked identifier reading formed commit is known =
    subst (λ told. (forms : IsRead told) → commit_by identifier told forms ≡ Ok (committed_to identifier commit known)) (sym is) same formed
  where
    same : (forms : IsRead (Ok commit)) → commit_by identifier (Ok commit) forms ≡ Ok (committed_to identifier commit known)
    same forms = ap (λ given. Ok (committed_to identifier commit given)) (squash₁ ∣ forms commit refl ∣₁ known)

pub unread_commit : (identifier : Identifier) (reading : Reading CommitBody) (formed : IsRead reading) (error : ReadError) (why : Unplanned) → Gives {A = CommitBody} (Err error) reading → IsUnread error why → Meets (commit_by identifier reading formed) (Err why)
unread_commit identifier reading formed (read.Field path) why gives is =
    subst (λ told. (forms : IsRead told) → Meets (commit_by identifier told forms) (Err why)) (sym gives) (λ forms. refused _ _ why is) formed
unread_commit identifier reading formed read.OutOfMemory why gives is =
    subst (λ told. Meets (commit_by identifier reading formed) (Err told)) (sym is) tt
