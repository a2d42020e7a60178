use Rattle.std.proofs.Common.{◌≡◌, ◌+◌, ℕ, List, [], ◌∷◌, ◌++◌, length, Option, sym, ap, subst, ◌∙◌, arith, length-append}
use Rattle.pol_wire.proofs.StreamsLemmas.{IsShifted-trans}
use Rattle.pol_wire.specs.Streams.{IsShifted}
use Rattle.pol_init.specs.Drawing.{DrawsAll}
use Rattle.pol_init.proofs.drawing.draw_words.Goals as goal

-- one word more
drawn-more : (before now after : Option (ℕ → ℕ)) (words longer : List ℕ) (word count : ℕ) → DrawsAll before now count words → IsShifted now after (word ∷ []) → longer ≡ words ++ word ∷ []
    → DrawsAll before after (count + 1) longer
drawn-more before now after words longer word count drawn one is = record {
  shifted = subst (IsShifted before after) (sym is) (IsShifted-trans before now after words (word ∷ []) drawn.shifted one);
  number = omega (arith, drawn.number, ap length is, length-append words (word ∷ []));
}

pub loop-preserved : goal.loop-preserved
loop-preserved g c =
    let before = c.loop.invariant in
    record {
      drawn = drawn-more _ _ _ c.loop.words.items c.push_reserved.new.self.items c.in-Ok-word.word c.loop.counter before.drawn c.in-Ok-word.ensures.word c.push_reserved.ensures.items;
      same = c.in-Ok-word.ensures.count.counted ∙ before.same;
      room = omega (arith, before.room, c.push_reserved.ensures.capacity);
    }
