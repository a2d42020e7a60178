use Rattle.std.specs.List.{IsDistinct}
use Rattle.std.proofs.Common.{refl}
use Rattle.pol_tables.specs.Rising.{KeysRise}
use Rattle.pol_tables.proofs.table.Table.new.Goals as goal

pub invariant_of-result : goal.invariant_of-result
unfolding KeysRise IsDistinct
invariant_of-result g c = rw c.new.ensures.items (record { differ = tt; ordered = λ rise. tt; counted = refl })
