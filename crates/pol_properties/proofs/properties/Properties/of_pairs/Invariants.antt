use Rattle.std.proofs.Common.{◌≡◌}
use Rattle.pol_properties.specs.Properties.{of_pairs}
use Rattle.pol_properties.proofs.properties.Properties.of_pairs.Given as goal

abbrev pub invariant-loop-pair : goal.invariant-loop-pair
invariant-loop-pair l = l.properties ≡ of_pairs l.yielded
