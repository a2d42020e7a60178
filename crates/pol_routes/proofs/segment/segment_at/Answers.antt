use Rattle.std.proofs.Common.{◌==◌, List, ℕ, option_map, unwrap_or, [], rules, tests, sym, ap, ◌∙◌}
use Rattle.std.specs.Borrow.{Bor}
use Rattle.std.proofs.lemmas.Iterator.Consumers.{nth_from_yields_List}
use Rattle.std.proofs.lemmas.Iterator.Splits.{YieldsList-from_slice_split}
use Rattle.pol_routes.specs.Segment.{slash}
use Rattle.pol_routes.proofs.segment.segment_at.Goals as goal

pub returns-in-Some : goal.returns-in-Some
returns-in-Some c =
    let found = nth_from_yields_List c.nth.result _ c.args.place c.nth.ensures.ran
    (YieldsList-from_slice_split _ (λ byte. byte == slash) c.args.path.now c.split.ensures.rest c.split.ensures.done c.split.ensures.closure
    (λ x b q k. search (rules, tests))) in
    ap (λ r. unwrap_or (option_map (λ (segment : Bor (List ℕ)). segment.now) r) []) (sym c.in-Some.is) ∙ ap (λ f. unwrap_or f []) found

pub returns-in-None : goal.returns-in-None
returns-in-None c =
    let found = nth_from_yields_List c.nth.result _ c.args.place c.nth.ensures.ran
    (YieldsList-from_slice_split _ (λ byte. byte == slash) c.args.path.now c.split.ensures.rest c.split.ensures.done c.split.ensures.closure
    (λ x b q k. search (rules, tests))) in
    ap (λ r. unwrap_or (option_map (λ (segment : Bor (List ℕ)). segment.now) r) []) (sym c.in-None.is) ∙ ap (λ f. unwrap_or f []) found
