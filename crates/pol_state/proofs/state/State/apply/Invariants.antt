use Rattle.std.proofs.Common.{◌≡◌, reverse, vec_len}
use Rattle.std.specs.List.{fold}
use Rattle.pol_state.specs.Applied.{changed, HasRoom}
use Rattle.pol_state.proofs.state.State.apply.Given as goal

abbrev pub invariant-loop-change : goal.invariant-loop-change
invariant-loop-change l =
    (fold changed l.self.rows (reverse l.changes.items) ≡ fold changed l.initial.self.rows l.fn.changes.items)
    × HasRoom (reverse l.changes.items) l.self.room

abbrev pub decreases-loop-change : goal.decreases-loop-change
decreases-loop-change l = vec_len l.changes
