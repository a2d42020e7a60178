use Rattle.std.proofs.Common.{◌≡◌, filter, not, take}
use Rattle.pol_properties.specs.Properties.{has_value}
use Rattle.pol_properties.proofs.properties.Properties.missing_keys.Given as goal

abbrev pub invariant-loop-key : goal.invariant-loop-key
invariant-loop-key l =
    l.missing.items ≡ filter (λ key. not (has_value l.self key)) (take l.key-index l.removals)
