use Rattle.std.proofs.Common.{◌≡◌, ◌≤◌, ◌++◌}
use Rattle.std.specs.Prelude.{vec_capacity, vec_len}
use Rattle.pol_blocks.proofs.edits.move_behind.Given as goal

abbrev pub invariant-loop-block : goal.invariant-loop-block
invariant-loop-block g l =
    (l.fn.block.items ≡ l.block.items ++ l.more.items)
    × (l.at ≤ vec_len l.block)
    × (vec_capacity l.block ≡ vec_capacity l.fn.block)
    × (vec_capacity l.fn.more ≤ vec_capacity l.more)

abbrev pub decreases-loop-block : goal.decreases-loop-block
decreases-loop-block g l = vec_len l.block
