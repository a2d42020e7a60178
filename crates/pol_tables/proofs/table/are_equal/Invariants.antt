use Rattle.std.proofs.Common.{◌≡◌}
use Rattle.std.specs.Cmp.Lexicographic.{pointwise}
use Rattle.pol_tables.proofs.table.are_equal.Given as goal

-- those that are left compare as all do
abbrev pub invariant-loop-row : goal.invariant-loop-row
invariant-loop-row g l =
    pointwise g.R.PartialEq.eq l.row-iterator l.others ≡ pointwise g.R.PartialEq.eq l.fn.left l.fn.right
