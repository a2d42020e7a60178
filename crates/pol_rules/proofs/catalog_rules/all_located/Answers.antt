use Rattle.std.proofs.Common.{◌≡◌, List, [], ◌∷◌, ◌++◌, ℕ, get_or, map, take, ap, ◌∙◌, sym}
use Rattle.std.proofs.lemmas.List.{take_more, map-append}
use Rattle.pol_locations.specs.Location.{segments_of}
use Rattle.pol_rules.specs.Rules.{bad_text, bad_texts}
use Rattle.pol_rules.proofs.ContentLemmas.{bad_at, bad_nil, bad_push}
use Rattle.pol_rules.proofs.JudgedLemmas.{judged-stopped}
use Rattle.pol_rules.proofs.catalog_rules.all_located.Goals as goal

pub loop-text-init : goal.loop-text-init
loop-text-init c = (bad_nil, c.new-locations.ensures.items)

pub returns-in_err-located : goal.returns-in_err-located
returns-in_err-located c =
    let text : List ℕ = c.text-item.result in
    let texts = c.args.texts.now in
    let here : text ≡ get_or texts c.loop-text.text-index text = c.text-item.is in
    judged-stopped {T = List (List ℕ)} {U = List (List (List ℕ))} (bad_text text) (bad_texts texts) (λ location. location ≡ segments_of text) (λ locations. locations ≡ map segments_of texts) c.in_err-located.field-0.0 c.from_residual.result c.from_residual.ensures.1
    (λ refusal bad. bad_at texts c.loop-text.text-index text c.loop-text-test.true c.loop-text.invariant.0 refusal (sym (ap bad_text here) ∙ bad)) c.in_err-located.ensures

pub loop-text-preserved : goal.loop-text-preserved
loop-text-preserved c =
    let text : List ℕ = c.text-item.result in
    let texts = c.args.texts.now in
    let here : text ≡ get_or texts c.loop-text.text-index text = c.text-item.is in (
      bad_push texts c.loop-text.text-index text c.loop-text-test.true c.loop-text.invariant.0 (sym (ap bad_text here) ∙ c.in_ok-located.ensures.0),
      c.in_ok-push.ensures.items
          ∙ (λ i. c.loop-text.invariant.1 i ++ (c.in_ok-located.ensures.1 ∙ ap segments_of here) i ∷ [])
          ∙ sym (map-append segments_of (take c.loop-text.text-index texts) (get_or texts c.loop-text.text-index text ∷ []))
          ∙ ap (map segments_of) (sym (take_more texts c.loop-text.text-index text c.loop-text-test.true)),
    )
