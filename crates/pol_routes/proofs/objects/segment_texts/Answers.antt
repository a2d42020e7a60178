use Rattle.std.proofs.Common.{◌==◌, ◌∙◌, ap, sym, drop, Ok, Err, rules, tests}
use Rattle.std.proofs.lemmas.Iterator.Adapters.{YieldsList-from_skip}
use Rattle.std.proofs.lemmas.Iterator.Splits.{YieldsList-from_slice_split}
use Rattle.std.proofs.lemmas.List.{length_push}
use Rattle.std.specs.Iterator.Adapters.{skip_source}
use Rattle.std.specs.Slice.Iter as slice
use Rattle.pol_requests.specs.Refused.{Meets}
use Rattle.pol_routes.specs.Objects.{texts_behind}
use Rattle.pol_routes.specs.Segment.{segments, slash}
use Rattle.pol_routes.proofs.ObjectLemmas.{end_of, read_nothing, read_on, text_more, text_stops, texts_whole, turn_of}
use Rattle.pol_routes.proofs.objects.segment_texts.Goals as goal

pub loop-segment-init : goal.loop-segment-init
loop-segment-init c =
    let all = drop 2 (segments c.args.path.now) in read_nothing all ∙ ap (λ texts. read_on texts all) (sym c.new-texts.ensures.items)

pub loop-segment-preserved : goal.loop-segment-preserved
loop-segment-preserved c =
    let turn = turn_of c.loop-segment.yielded _ c.loop-segment.yielded_by _ _ c.in-Some.segment c.in-Some.is c.next.ensures.steps
    c.into_iter-segment-iterator.ensures.into_iter_gives (YieldsList-from_skip {s = c.skip-segment-items.result} 2
    (YieldsList-from_slice_split {s = skip_source c.skip-segment-items.result} _ (λ byte. byte == slash) c.args.path.now
    (ap slice.split_rest c.skip-segment-items.ensures.source ∙ c.split.ensures.rest) (ap slice.split_done c.skip-segment-items.ensures.source ∙ c.split.ensures.done)
    (ap slice.split_callee c.skip-segment-items.ensures.source ∙ c.split.ensures.closure) (λ x b q k. search (rules, tests))) c.skip-segment-items.ensures.count) in
    text_more (drop 2 (segments c.args.path.now)) c.loop-segment.texts.items c.push.new.texts.items c.in-Some.segment.now c.in_ok-text.text _ _
    c.loop-segment.invariant turn.0 turn.1 c.in_ok-text.ensures (c.in_ok-push.ensures {u = tt}) (length_push c.loop-segment.yielded c.in-Some.segment)

pub returns-in_err-text : goal.returns-in_err-text
returns-in_err-text c =
    let turn = turn_of c.loop-segment.yielded _ c.loop-segment.yielded_by _ _ c.in-Some.segment c.in-Some.is c.next.ensures.steps
    c.into_iter-segment-iterator.ensures.into_iter_gives (YieldsList-from_skip {s = c.skip-segment-items.result} 2
    (YieldsList-from_slice_split {s = skip_source c.skip-segment-items.result} _ (λ byte. byte == slash) c.args.path.now
    (ap slice.split_rest c.skip-segment-items.ensures.source ∙ c.split.ensures.rest) (ap slice.split_done c.skip-segment-items.ensures.source ∙ c.split.ensures.done)
    (ap slice.split_callee c.skip-segment-items.ensures.source ∙ c.split.ensures.closure) (λ x b q k. search (rules, tests))) c.skip-segment-items.ensures.count) in
    let stops : Meets (texts_behind c.args.path.now) (Err c.in_err-text.field-0.0) =
    text_stops (drop 2 (segments c.args.path.now)) c.loop-segment.texts.items c.in-Some.segment.now _ _ c.loop-segment.invariant turn.0 turn.1 (c.in_err-text.ensures {u = tt}) in
    search rules

pub returns : goal.returns
returns c =
    let end = end_of c.loop-segment.yielded _ c.loop-segment.yielded_by _ _ c.in-None.is c.next.ensures.steps
    c.into_iter-segment-iterator.ensures.into_iter_gives (YieldsList-from_skip {s = c.skip-segment-items.result} 2
    (YieldsList-from_slice_split {s = skip_source c.skip-segment-items.result} _ (λ byte. byte == slash) c.args.path.now
    (ap slice.split_rest c.skip-segment-items.ensures.source ∙ c.split.ensures.rest) (ap slice.split_done c.skip-segment-items.ensures.source ∙ c.split.ensures.done)
    (ap slice.split_callee c.skip-segment-items.ensures.source ∙ c.split.ensures.closure) (λ x b q k. search (rules, tests))) c.skip-segment-items.ensures.count) in
    texts_whole (drop 2 (segments c.args.path.now)) c.loop-segment.texts.items _ c.loop-segment.invariant end ∙ ap Ok (sym c.from.ensures)
