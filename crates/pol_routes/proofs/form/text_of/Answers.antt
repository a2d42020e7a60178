use Rattle.std.proofs.Common.{ap, string_bytes}
use Rattle.std.proofs.lemmas.Bool.{false≢true}
use Rattle.std.proofs.lemmas.Str.{IsUtf8-had}
use Rattle.pol_routes.proofs.FieldLemmas.{text_of_text, text_of_other}
use Rattle.pol_routes.proofs.form.text_of.Goals as goal

pub returns-in-Ok : goal.returns-in-Ok
returns-in-Ok c =
    rw c.from.ensures
    (text_of_text c.args.bytes.items (string_bytes c.in-Ok.text) (ap (λ v. v.items) c.in-Ok.ensures.ok) (IsUtf8-had _ c.in-Ok.text.ok))

pub returns : goal.returns
returns c = text_of_other c.args.bytes.items (λ is. false≢true (c.in-Err.ensures.succeeds is))
