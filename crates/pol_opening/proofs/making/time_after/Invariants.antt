use Rattle.std.proofs.Common.{◌≡◌, take}
use Rattle.std.specs.List.{fold}
use Rattle.pol_state.specs.Applied.{changed}
use Rattle.pol_state.specs.Rows.{Rows}
use Rattle.pol_opening.proofs.making.time_after.Given as goal

-- the time after the changes so far
abbrev pub invariant-loop-change : goal.invariant-loop-change
invariant-loop-change l = (s : Rows) → s.time ≡ l.fn.time → l.time ≡ (fold changed s (take l.change-index l.changes)).time
