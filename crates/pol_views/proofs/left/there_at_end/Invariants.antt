use Rattle.std.proofs.Common.{◌≡◌, ◌≤◌, ◌+◌, length, take}
use Rattle.std.specs.List.{suffix_len}
use Rattle.pol_views.specs.Left.{is_there}
use Rattle.pol_views.proofs.left.there_at_end.Given as goal

abbrev pub invariant-loop-start : goal.invariant-loop-start
invariant-loop-start l =
    (l.start ≤ length l.log)
    × (l.start + suffix_len (is_there l.versions) l.log ≡ length l.log + suffix_len (is_there l.versions) (take l.start l.log))

abbrev pub decreases-loop-start : goal.decreases-loop-start
decreases-loop-start l = l.start
