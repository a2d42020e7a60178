use Rattle.std.proofs.Common.{◌++◌, ◌∷◌, [], arith, length-append}
use Rattle.pol_server.proofs.EndsLemmas.{drawn-failed, drawn-more, kept-more}
use Rattle.pol_server.proofs.ends.draw_words.Goals as goal

pub loop-place-preserved : goal.loop-place-preserved
loop-place-preserved g c =
    let before = c.loop-place.invariant in
    let after = c.with_word-words.ensures in (
      before.0 ++ c.in_ok-word.word ∷ [],
      drawn-more _ _ _ before.0 c.in_ok-word.word before.1 c.in_ok-word.ensures,
      omega (arith, before.2, length-append before.0 (c.in_ok-word.word ∷ [])),
      kept-more c.loop-place.words c.with_word-words.result before.0 c.loop-place.place c.in_ok-word.word before.2 before.3 after.there after.others,
    )

pub returns-in_err-word : goal.returns-in_err-word
returns-in_err-word g c =
    let before = c.loop-place.invariant in
    drawn-failed _ _ _ before.0 c.args.count _ c.from_residual.result c.from_residual.ensures.0 before.1 (omega (arith, before.2, c.loop-place-test.true)) c.in_err-word.ensures
