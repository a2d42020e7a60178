use Rattle.std.proofs.Common.{◌≡◌, length}
use Rattle.std.specs.Slice.Iter.{iter_rest}
use Rattle.pol_tables.specs.Slots.{kept}
use Rattle.pol_tables.proofs.rows.next_kept.Given as goal

-- what is left has the rows that there were
abbrev pub invariant-loop-slot : goal.invariant-loop-slot
invariant-loop-slot g l = kept (iter_rest l.slots) ≡ kept (iter_rest l.fn.slots)

abbrev pub decreases-loop-slot : goal.decreases-loop-slot
decreases-loop-slot g l = length (iter_rest l.slots)
