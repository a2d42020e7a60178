use Rattle.std.proofs.Common.{◌≡◌, ◌++◌, IfOk, ◌-◌, length, take, ap, subst, ◌∙◌}
use Rattle.serde_json.specs.View.{members_view}
use Rattle.serde_json.specs.Written.{compact_text}
use Rattle.pol_json_texts.proofs.ObjectLemmas.{opened_object}
use Rattle.pol_json_texts.proofs.objects.open_object.Goals as goal

pub returns : goal.returns
returns c =
    let members = members_view c.args.members.entries in
    let whole = c.as_slice.ensures.value ∙ c.in_ok-object.ensures ∙ ap compact_text c.from.ensures in
    subst (λ more. IfOk c.write_bytes.result (λ all. all.items ≡ c.args.text.items ++ more))
    (c.before_end.ensures ∙ ap (λ text. take (length text - 1) text) whole ∙ opened_object members) c.write_bytes.ensures
