use Rattle.std.proofs.Common.{◌≡◌, map}
use Rattle.pol_metajson.specs.Table.{property_of}
use Rattle.pol_metajson.proofs.table.properties_of.Given as goal

abbrev pub invariant-loop-key : goal.invariant-loop-key
invariant-loop-key l = l.pairs.items ≡ map property_of l.yielded
