use Rattle.std.proofs.Common.{◌≡◌, ◌≢◌, ◌<◌, ◌∷◌, [], ◌++◌, length, ap, ◌∙◌, rules, lit<}
use Rattle.std.proofs.lemmas.Iterator.Consumers.{YieldsList-turn, YieldsList-end}
use Rattle.std.proofs.lemmas.Iterator.Splits.{YieldsList-from_str_split}
use Rattle.std.proofs.lemmas.List.{length_push}
use Rattle.pol_routes.proofs.ScopeLemmas.{all_words, word_too_many, word_more}
use Rattle.pol_routes.proofs.token_form.scope_words.Goals as goal

pub returns-then-len-eq-SCOPE_LIMIT : goal.returns-then-len-eq-SCOPE_LIMIT
returns-then-len-eq-SCOPE_LIMIT c =
    let some : 0 < length c.args.scope.now = search rules in
    let full : length c.loop-word.words.items ≡ 16 = search rules in
    let road = YieldsList-from_str_split 32 c.args.scope.now (lit< tt) (cc) (cc) (cc) in
    let turn = YieldsList-turn road c.loop-word.yielded _ c.loop-word.yielded_by _ _ c.in-Some.word c.in-Some.is c.next.ensures.steps in
    word_too_many c.args.scope.now c.loop-word.words.items (length c.loop-word.yielded) some c.loop-word.invariant.0 turn.0 full

pub loop-word-preserved : goal.loop-word-preserved
loop-word-preserved c =
    let not_full : length c.loop-word.words.items ≢ 16 = search rules in
    let road = YieldsList-from_str_split 32 c.args.scope.now (lit< tt) (cc) (cc) (cc) in
    let turn = YieldsList-turn road c.loop-word.yielded _ c.loop-word.yielded_by _ _ c.in-Some.word c.in-Some.is c.next.ensures.steps in
    let copied = c.from-in-loop-word.ensures ∙ c.in_ok-from_str.ensures.ok in
    word_more c.args.scope.now c.loop-word.words.items c.push.new.self.items c.in-Some.word.now (length c.loop-word.yielded) _
    c.loop-word.invariant.0 turn.0 turn.1 (c.in_ok-push.ensures.items ∙ ap (λ word. c.loop-word.words.items ++ word ∷ []) copied)
    (length_push c.loop-word.yielded c.in-Some.word) c.loop-word.invariant.1 not_full

pub returns : goal.returns
returns c =
    let some : 0 < length c.args.scope.now = search rules in
    let road = YieldsList-from_str_split 32 c.args.scope.now (lit< tt) (cc) (cc) (cc) in
    let end = YieldsList-end road c.loop-word.yielded _ c.loop-word.yielded_by _ _ c.in-None.is c.next.ensures.steps in
    rw c.from-2.ensures
    (all_words c.args.scope.now c.loop-word.words.items (length c.loop-word.yielded) some c.loop-word.invariant.0 end.1 c.loop-word.invariant.1)
