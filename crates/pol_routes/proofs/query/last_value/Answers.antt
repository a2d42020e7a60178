use Rattle.std.proofs.Common.{List, ℕ, true, false, option_map, take, length, sym, ap, ◌∙◌}
use Rattle.std.specs.Borrow.{Bor}
use Rattle.std.proofs.lemmas.Iterator.Consumers.{YieldsList-from_first, YieldsList-turn, YieldsList-end}
use Rattle.std.proofs.lemmas.List.{length_push}
use Rattle.form_urlencoded.specs.Form.{raw_pairs, decode, parse, pair_text}
use Rattle.form_urlencoded.specs.Parse.{raw_pairs_left}
use Rattle.pol_routes.proofs.QueryLemmas.{last_of, value_more, value_last}
use Rattle.pol_routes.proofs.query.last_value.Goals as goal

pub loop-name-preserved-then-branch : goal.loop-name-preserved-then-branch
loop-name-preserved-then-branch c =
    let road = YieldsList-from_first pair_text raw_pairs_left (raw_pairs c.args.query.now) (cc) in
    let turn = YieldsList-turn road c.loop-name.yielded _ c.loop-name.yielded_by _ c.next.new.self (c.in-Some.name, c.in-Some.value) c.in-Some.is c.next.ensures.steps in
    value_more c.args.key.now c.args.query.now (length c.loop-name.yielded) c.in-Some.name.now c.in-Some.value.now
    (option_map (λ (value : Bor (List ℕ)). decode value.now) c.loop-name.last) true turn (sym c.if-branch.true ∙ c.in_ok-has_name.ensures) c.loop-name.invariant
    ∙ ap (λ i. last_of c.args.key.now (take i (parse c.args.query.now))) (sym (length_push c.loop-name.yielded (c.in-Some.name, c.in-Some.value)))

pub loop-name-preserved : goal.loop-name-preserved
loop-name-preserved c =
    let road = YieldsList-from_first pair_text raw_pairs_left (raw_pairs c.args.query.now) (cc) in
    let turn = YieldsList-turn road c.loop-name.yielded _ c.loop-name.yielded_by _ c.next.new.self (c.in-Some.name, c.in-Some.value) c.in-Some.is c.next.ensures.steps in
    value_more c.args.key.now c.args.query.now (length c.loop-name.yielded) c.in-Some.name.now c.in-Some.value.now
    (option_map (λ (value : Bor (List ℕ)). decode value.now) c.loop-name.last) false turn (sym c.if-branch.false ∙ c.in_ok-has_name.ensures) c.loop-name.invariant
    ∙ ap (λ i. last_of c.args.key.now (take i (parse c.args.query.now))) (sym (length_push c.loop-name.yielded (c.in-Some.name, c.in-Some.value)))

pub returns : goal.returns
returns c =
    let road = YieldsList-from_first pair_text raw_pairs_left (raw_pairs c.args.query.now) (cc) in
    let end = YieldsList-end road c.loop-name.yielded _ c.loop-name.yielded_by _ c.next.new.self c.in-None.is c.next.ensures.steps in
    value_last c.args.key.now c.args.query.now (length c.loop-name.yielded) _ end.1 c.loop-name.invariant
