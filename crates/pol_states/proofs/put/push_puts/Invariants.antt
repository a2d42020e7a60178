use Rattle.std.proofs.Common.{◌≡◌, ◌++◌, map}
use Rattle.pol_states.proofs.put.push_puts.Given as goal

-- with the puts of those that are left it is with the puts of all
abbrev pub invariant-loop-row : goal.invariant-loop-row
invariant-loop-row g l =
    l.changes.items ++ map g.R.Put.change l.row-iterator ≡ l.initial.changes.items ++ map g.R.Put.change l.fn.rows
