use Rattle.std.proofs.Common.{◌≡◌, length}
use Rattle.pol_content_steps.specs.Taken.{drops_same}
use Rattle.pol_content_steps.proofs.taken.drop_apart.Given as goal
use Rattle.pol_sound_access.specs.Judged.{all_differ}

-- of the changes that have been compared none drops what a later one does
abbrev pub invariant-loop-first : goal.invariant-loop-first
invariant-loop-first l = all_differ drops_same l.fn.changes ≡ all_differ drops_same l.left

abbrev pub decreases-loop-first : goal.decreases-loop-first
decreases-loop-first l = length l.left
