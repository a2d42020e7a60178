use Rattle.std.proofs.Common.{◌≡◌, take}
use Rattle.std.specs.List.{fold}
use Rattle.pol_state.specs.Applied.{changed}
use Rattle.pol_soundness.proofs.after.After.make.Given as goal

-- the changes so far are made
abbrev pub invariant-loop-change : goal.invariant-loop-change
invariant-loop-change l = l.self ≡ fold changed l.initial.self (take l.change-index l.changes)
