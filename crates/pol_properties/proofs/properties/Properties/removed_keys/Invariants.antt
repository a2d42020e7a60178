use Rattle.std.proofs.Common.{◌≡◌, take}
use Rattle.pol_properties.specs.Properties.{removed_keys}
use Rattle.pol_properties.proofs.properties.Properties.removed_keys.Given as goal

abbrev pub invariant-loop-pair : goal.invariant-loop-pair
invariant-loop-pair l = l.removed.items ≡ removed_keys l.removals (take l.pair-index l.pairs)
