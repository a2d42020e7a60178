use Rattle.std.proofs.Common.{◌≡◌, take}
use Rattle.pol_properties.specs.Properties.{pairs_updated}
use Rattle.pol_properties.proofs.properties.Properties.updated.Given as goal

abbrev pub invariant-loop-pair : goal.invariant-loop-pair
invariant-loop-pair l = l.properties ≡ pairs_updated l.removals (take l.pair-index l.pairs) l.self
