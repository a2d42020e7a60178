use Rattle.std.proofs.Common.{◌≡◌, take}
use Rattle.pol_updates.specs.Texts.{all_removed}
use Rattle.pol_updates.proofs.text_updates.remove_all.Given as goal

abbrev pub invariant-loop-key : goal.invariant-loop-key
invariant-loop-key l = l.properties ≡ all_removed (take l.key-index l.removals) l.initial.properties
