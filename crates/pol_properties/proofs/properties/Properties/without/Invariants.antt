use Rattle.std.proofs.Common.{◌≡◌, filter, not, take}
use Rattle.pol_properties.specs.Properties.{is_among}
use Rattle.pol_properties.proofs.properties.Properties.without.Given as goal

abbrev pub invariant-loop-pair : goal.invariant-loop-pair
invariant-loop-pair l =
    l.kept.items ≡ filter (λ pair. not (is_among l.removals pair.key)) (take l.pair-index l.pairs)
