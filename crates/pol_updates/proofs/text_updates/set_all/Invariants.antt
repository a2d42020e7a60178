use Rattle.std.proofs.Common.{◌≡◌, take}
use Rattle.pol_updates.specs.Texts.{all_set}
use Rattle.pol_updates.proofs.text_updates.set_all.Given as goal

abbrev pub invariant-loop-pair : goal.invariant-loop-pair
invariant-loop-pair l = l.properties ≡ all_set (take l.pair-index l.pairs) l.initial.properties
