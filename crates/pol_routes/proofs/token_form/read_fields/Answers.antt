use Rattle.std.proofs.Common.{◌∷◌, [], ◌++◌, take, length, sym, ap, ◌∙◌}
use Rattle.std.specs.List.{list_all}
use Rattle.std.proofs.lemmas.Iterator.Consumers.{YieldsList-from_first, YieldsList-turn, YieldsList-end}
use Rattle.std.proofs.lemmas.List.{length_push}
use Rattle.form_urlencoded.specs.Form.{raw_pairs, parse, pair_text}
use Rattle.form_urlencoded.specs.Parse.{raw_pairs_left}
use Rattle.pol_routes.specs.Form.{is_text}
use Rattle.pol_routes.specs.TokenForm.{fields_of}
use Rattle.pol_routes.proofs.FieldLemmas.{unreadable_name, unreadable_value, field_more, readable}
use Rattle.pol_routes.proofs.token_form.read_fields.Goals as goal

pub returns-in_default : goal.returns-in_default
returns-in_default c =
    let road = YieldsList-from_first pair_text raw_pairs_left (raw_pairs c.args.body.now) (cc) in
    let turn = YieldsList-turn road c.loop-name.yielded _ c.loop-name.yielded_by _ c.next.new.self (c.in-Some.name, c.in-Some.value) c.in-Some.is c.next.ensures.steps in
    unreadable_name c.args.body.now (length c.loop-name.yielded) c.in-Some.name.now c.in-Some.value.now turn
    (sym c.in_default.is ∙ c.in_ok-name.ensures)

pub returns-in_default-2 : goal.returns-in_default-2
returns-in_default-2 c =
    let road = YieldsList-from_first pair_text raw_pairs_left (raw_pairs c.args.body.now) (cc) in
    let turn = YieldsList-turn road c.loop-name.yielded _ c.loop-name.yielded_by _ c.next.new.self (c.in-Some.name, c.in-Some.value) c.in-Some.is c.next.ensures.steps in
    unreadable_value c.args.body.now (length c.loop-name.yielded) c.in-Some.name.now c.in-Some.value.now turn
    (sym c.in_default-2.is ∙ c.in_ok-value.ensures)

pub loop-name-preserved : goal.loop-name-preserved
loop-name-preserved c =
    let body = c.args.body.now in
    let n = length c.loop-name.yielded in
    let road = YieldsList-from_first pair_text raw_pairs_left (raw_pairs body) (cc) in
    let turn = YieldsList-turn road c.loop-name.yielded _ c.loop-name.yielded_by _ c.next.new.self (c.in-Some.name, c.in-Some.value) c.in-Some.is c.next.ensures.steps in
    let more = field_more body n c.in-Some.name.now c.in-Some.value.now c.in-Some-2.name c.in-Some-3.value turn c.loop-name.invariant.0
    (sym c.in-Some-2.is ∙ c.in_ok-name.ensures) (sym c.in-Some-3.is ∙ c.in_ok-value.ensures) in
    let one = length_push c.loop-name.yielded (c.in-Some.name, c.in-Some.value) in (
      ap (λ i. list_all is_text (take i (parse body))) one ∙ more.0,
      c.add.ensures (take n (parse body)) c.loop-name.invariant.1
          ∙ ap (λ name. fields_of (take n (parse body) ++ (name, c.in-Some-3.value) ∷ [])) c.as_str.ensures
          ∙ ap fields_of (sym more.1) ∙ ap (λ i. fields_of (take i (parse body))) (sym one),
    )

pub returns : goal.returns
returns c =
    let road = YieldsList-from_first pair_text raw_pairs_left (raw_pairs c.args.body.now) (cc) in
    let end = YieldsList-end road c.loop-name.yielded _ c.loop-name.yielded_by _ c.next.new.self c.in-None.is c.next.ensures.steps in
    readable c.args.body.now (length c.loop-name.yielded) c.loop-name.fields end.1 c.loop-name.invariant.0 c.loop-name.invariant.1
