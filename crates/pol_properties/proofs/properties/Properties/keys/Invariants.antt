use Rattle.std.proofs.Common.{◌≡◌, take}
use Rattle.pol_properties.specs.Properties.{keys}
use Rattle.pol_properties.proofs.properties.Properties.keys.Given as goal

abbrev pub invariant-loop-pair : goal.invariant-loop-pair
invariant-loop-pair l = l.found.items ≡ keys (take l.pair-index l.pairs)
