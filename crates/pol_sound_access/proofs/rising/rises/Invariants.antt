use Rattle.std.proofs.Common.{◌≡◌}
use Rattle.pol_sound_access.specs.Judged.{rises}
use Rattle.pol_sound_access.proofs.rising.rises.Given as goal

-- what is left rises from here on where all rise
abbrev pub invariant-loop-row : goal.invariant-loop-row
invariant-loop-row g l = rises g.R.Keyed.key l.low l.fn.next l.row-iterator ≡ rises g.R.Keyed.key l.fn.least l.fn.next l.fn.rows
