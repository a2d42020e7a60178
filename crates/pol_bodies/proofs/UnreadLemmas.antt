-- Bodies that aren't read.
use Rattle.std.proofs.Common.{Ok, Err, refl, sym, subst}
use Rattle.pol_readers.specs.declared.error.ReadError.{ReadError}
use Rattle.pol_readers.specs.declared.error.ReadError.TheVariants as read
use Rattle.pol_readers.specs.Reading.{Reading, Gives}
use Rattle.pol_requests.proofs.RefusedLemmas.{refused}
use Rattle.pol_requests.specs.declared.refused.Unplanned.{Unplanned}
use Rattle.pol_requests.specs.Refused.{Meets}
use Rattle.pol_bodies.specs.Body.{body_of, IsUnread}

pub unread_body : {A : Type 0} (reading : Reading A) (error : ReadError) (why : Unplanned) → Gives {A = A} (Err error) reading → IsUnread error why → Meets (body_of reading) (Err why)
unfolding body_of
unread_body reading (read.Field path) why gives is = subst (λ told. Meets (body_of told) (Err why)) (sym gives) (refused _ _ why is)
unread_body reading read.OutOfMemory why gives is = subst (λ told. Meets (body_of reading) (Err told)) (sym is) tt

pub read_body : {A : Type 0} (reading : Reading A) (value : A) → Gives (Ok value) reading → Meets (body_of reading) (Ok value)
unfolding body_of
read_body reading value gives = rw gives refl
