-- Bodies that create tables, as requests read them.
use Rattle.std.proofs.Common.{◌≡◌, Ok, Err, refl, sym, subst, ap}
use Rattle.pol_metajson.specs.Table.{IsFormed}
use Rattle.pol_metajson.specs.declared.table.CreateTable.{CreateTable as TableBody}
use Rattle.pol_readers.specs.declared.error.ReadError.{ReadError}
use Rattle.pol_readers.specs.declared.error.ReadError.TheVariants as read
use Rattle.pol_readers.specs.Reading.{Reading, Gives}
use Rattle.pol_requests.proofs.RefusedLemmas.{refused}
use Rattle.pol_requests.specs.declared.refused.Unplanned.{Unplanned}
use Rattle.pol_requests.specs.Refused.{Meets}
use Rattle.pol_bodies.specs.Body.{IsUnread}
use Rattle.pol_bodies.specs.TableBody.{asked_by, asked_for}

-- what a reading gives has its forms
abbrev AreRead : Reading TableBody → Type 0
AreRead reading = (request : TableBody) → reading ≡ Ok request → IsFormed request

-- what is read is asked for, however its forms are known
pub asked : (reading : Reading TableBody) (formed : AreRead reading) (request : TableBody) → reading ≡ Ok request → (known : ∥ IsFormed request ∥₁) → asked_by reading formed ≡ Ok (asked_for request known)
asked reading formed request is known = subst (λ told. (forms : AreRead told) → asked_by told forms ≡ Ok (asked_for request known)) (sym is) same formed
  where
    same : (forms : AreRead (Ok request)) → asked_by (Ok request) forms ≡ Ok (asked_for request known)
    same forms = ap (λ given. Ok (asked_for request given)) (squash₁ ∣ forms request refl ∣₁ known)

-- what isn't read is told by its first bad field
pub unread_table : (reading : Reading TableBody) (formed : AreRead reading) (error : ReadError) (why : Unplanned) → Gives {A = TableBody} (Err error) reading → IsUnread error why → Meets (asked_by reading formed) (Err why)
unread_table reading formed (read.Field path) why gives is =
    subst (λ told. (forms : AreRead told) → Meets (asked_by told forms) (Err why)) (sym gives) (λ forms. refused _ _ why is) formed
unread_table reading formed read.OutOfMemory why gives is = subst (λ told. Meets (asked_by reading formed) (Err told)) (sym is) tt
