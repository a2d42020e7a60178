use Rattle.std.proofs.Common.{◌≡◌, length, refl, inl, inr, ◌⊎◌, ◌∙◌}
use Rattle.pol_types.specs.declared.bytes.Bytes.{Bytes}
use Rattle.pol_http.specs.declared.answer.Body.{Body}
use Rattle.pol_http.specs.declared.answer.Body.TheVariants.{Json, Token}
use Rattle.pol_http.specs.Answer.{length_of}
use Rattle.pol_http.proofs.answer.length.Goals as goal

held : (body : Body) (bytes : Bytes) → (body ≡ Json bytes) ⊎ (body ≡ Token bytes) → length bytes ≡ length_of body
held body bytes (inl is) = rw is refl
held body bytes (inr is) = rw is refl

pub returns-in-Json : goal.returns-in-Json
returns-in-Json c = c.len-in-Json.ensures ∙ held c.args.body.now c.in-Json.bytes c.in-Json.is
