use Rattle.std.proofs.Common.{◌≡◌, map}
use Rattle.pol_bodies.specs.Bodies.{property_of}
use Rattle.pol_bodies.proofs.bodies.properties_of.Given as goal

abbrev pub invariant-loop-key : goal.invariant-loop-key
invariant-loop-key l = l.pairs.items ≡ map property_of l.yielded
