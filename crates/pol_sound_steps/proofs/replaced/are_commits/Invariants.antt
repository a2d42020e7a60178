use Rattle.std.proofs.Common.{length}
use Rattle.pol_sound_steps.specs.Commits.{HaveLed}
use Rattle.pol_access_steps.specs.Counters.{counted}
use Rattle.pol_sound_steps.proofs.replaced.are_commits.Given as goal

-- the commits so far have led to a sound state
abbrev pub invariant-loop-first : goal.invariant-loop-first
invariant-loop-first l =
    HaveLed l.fn.state.rows l.fn.puts (counted l.fn.state.rows l.fn.counters) l.least l.left

abbrev pub decreases-loop-first : goal.decreases-loop-first
decreases-loop-first l = length l.left
