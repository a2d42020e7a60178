use Rattle.std.proofs.Common.{◌∷◌, ◌++◌, [], arith, ap, ap₂, ◌∙◌}
use Rattle.std.proofs.lemmas.List.{take_all}
use Rattle.std.specs.List.{flat_map}
use Rattle.json.specs.Print.{print}
use Rattle.json.specs.Token.{begin_array, end_array}
use Rattle.pol_metaprint.specs.Log.{entry_tokens}
use Rattle.pol_metaprint.proofs.TextLemmas.{log_text}
use Rattle.pol_metaprint.proofs.log.write_log.Goals as goal

pub returns : goal.returns
returns c =
    let log = c.args.log.now in
    let ended = c.in_ok-end_array.ensures in
    let all = take_all c.loop-entry.entry-index log (omega (arith, c.loop-entry-test.false)) in
    let entries = c.loop-entry.invariant.1 ∙ ap (λ entries. begin_array ∷ flat_map entry_tokens entries) all in
    c.into_inner.ensures.items
    ∙ ap₂ (λ before tokens. before ++ print tokens) (ended.room.0 ∙ c.loop-entry.invariant.0) (ended.ok ∙ ap (λ tokens. tokens ++ end_array ∷ []) entries)
    ∙ ap (λ text. c.args.text.items ++ text) (log_text log)
