use Rattle.std.proofs.Common.{◌≡◌, ◌∙◌, Ok, ap, inl, map, refl, rules, drop}
use Rattle.std.specs.Prelude.{string_bytes}
use Rattle.std.specs.declared.alloc.AllocError.{AllocError}
use Rattle.std.specs.Vec.Iter.{into_iter_items}
use Rattle.std.proofs.lemmas.Iterator.{YieldsList-from_map, items_from_collect}
use Rattle.std.proofs.lemmas.Iterator.Adapters.{YieldsList-from_skip, YieldsList-from_vec}
use Rattle.std.proofs.lemmas.Iterator.Consumers.{YieldsList-at}
use Rattle.pol_cli.proofs.GivenLemmas.{behind-drop}
use Rattle.pol_cli.proofs.given.words_given.Goals as goal

pub returns-in-Ok-collect-clause-words : goal.returns-in-Ok-collect-clause-words
returns-in-Ok-collect-clause-words c =
    let line = c.in-Ok.line in
    let source = YieldsList-at c.skip.ensures.source (YieldsList-from_vec (into_iter_items line) refl line.rest.ok.0) in
    let behind = YieldsList-at c.map.ensures.source (YieldsList-from_skip 1 source c.skip.ensures.count) in
    let are : c.in-Ok-collect.words.items ≡ map (λ word. string_bytes word) (drop 1 (into_iter_items line)) = items_from_collect {E = AllocError} (Ok c.in-Ok-collect.words) c.in-Ok-collect.ensures.ran (YieldsList-from_map _ (λ word. string_bytes word) behind c.map.ensures.closure (λ x r q k. search rules)) in
    rw (c.in-Ok.is) (inl (ap (λ list. Ok (record { list = list })) (c.from.ensures ∙ are ∙ behind-drop (λ word. string_bytes word) (into_iter_items line))))
