use Rattle.std.proofs.Common.{◌≡◌, ◌≤◌}
use Rattle.std.specs.Prelude.{vec_capacity}
use Rattle.pol_init.specs.Drawing.{DrawsAll}
use Rattle.pol_init.proofs.drawing.draw_words.Given as goal

abbrev pub invariant-loop : goal.invariant-loop
invariant-loop g l = record {
  drawn : DrawsAll (g.W.Draw.words l.fn.draw) (g.W.Draw.words l.draw) l.counter l.words.items;
  same : g.W.Draw.faults l.draw ≡ g.W.Draw.faults l.fn.draw;
  room : l.count ≤ vec_capacity l.words;
}
