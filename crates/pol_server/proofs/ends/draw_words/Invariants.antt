use Rattle.std.proofs.Common.{◌≡◌, ◌<◌, ℕ, List, length}
use Rattle.std.specs.Prelude.{slice_index}
use Rattle.pol_server.proofs.EndsLemmas.{DrawsFront}
use Rattle.pol_server.proofs.ends.draw_words.Given as goal

abbrev pub invariant-loop-place : goal.invariant-loop-place
invariant-loop-place g l =
    (drawn : List ℕ) × DrawsFront (g.L.Linked.ends l.fn.link) (g.L.Linked.ends l.link) drawn × (length drawn ≡ l.place)
    × ((k : ℕ) → k < 4 → slice_index l.words k ≡ slice_index drawn k)
