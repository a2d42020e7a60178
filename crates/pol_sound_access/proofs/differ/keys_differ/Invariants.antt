use Rattle.std.proofs.Common.{◌≡◌, ◌++◌, map}
use Rattle.pol_sound_access.proofs.differ.keys_differ.Given as goal

-- the keys that were seen are those of the rows before those that are left
abbrev pub invariant-loop-row : goal.invariant-loop-row
invariant-loop-row g l = l.seen.keys ++ map g.R.Told.told l.row-iterator ≡ map g.R.Told.told l.fn.rows
