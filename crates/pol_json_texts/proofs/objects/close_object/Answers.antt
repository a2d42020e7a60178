use Rattle.std.proofs.Common.{rules, ◌≡◌, ◌∷◌, ◌++◌, [], IfOk, ℕ, ◌-◌, length, take, drop, List, ap, ap₂, subst, ◌∙◌, append_assoc}
use Rattle.serde_json.specs.Data.{object}
use Rattle.serde_json.specs.View.{members_view, view}
use Rattle.serde_json.specs.Written.{comma_if, compact_text, members_text}
use Rattle.pol_json_texts.specs.Objects.{are_some, opened_text}
use Rattle.pol_json_texts.proofs.ObjectLemmas.{opened_object, closed_object}
use Rattle.pol_json_texts.proofs.objects.close_object.Goals as goal

pub returns : goal.returns
returns c =
    let text = c.args.text.items in
    let members = members_view c.args.members.entries in
    let whole = c.as_slice.ensures.value ∙ c.in_ok-object.ensures ∙ ap compact_text c.from.ensures in
    let rest = c.past_bracket.ensures ∙ ap (drop 1) whole in
    let comma = ap (λ later. comma_if later ++ drop 1 (compact_text (object members))) c.are_some.ensures in
    subst (λ whole. IfOk c.write_bytes.result (λ all. all.items ≡ whole))
    (ap₂ (λ front back. front ++ back) c.in_ok-text.ensures rest ∙ append_assoc text (comma_if c.are_some.result) _
    ∙ ap (λ more. text ++ more) (comma ∙ closed_object members)) c.write_bytes.ensures
