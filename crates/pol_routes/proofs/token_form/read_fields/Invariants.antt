use Rattle.std.proofs.Common.{◌≡◌, true, take, length}
use Rattle.std.specs.List.{list_all}
use Rattle.form_urlencoded.specs.Form.{parse}
use Rattle.pol_routes.specs.Form.{is_text}
use Rattle.pol_routes.specs.TokenForm.{fields_of}
use Rattle.pol_routes.proofs.token_form.read_fields.Given as goal

abbrev pub invariant-loop-name : goal.invariant-loop-name
invariant-loop-name l =
    (list_all is_text (take (length l.yielded) (parse l.body)) ≡ true)
    × (l.fields ≡ fields_of (take (length l.yielded) (parse l.body)))
