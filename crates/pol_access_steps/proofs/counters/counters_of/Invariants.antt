use Rattle.std.proofs.Common.{◌≡◌, length}
use Rattle.std.specs.List.{AllByRecursion}
use Rattle.pol_access_steps.specs.Counters.{counted}
use Rattle.pol_soundness.specs.Base.{rows_after, PutsValid}
use Rattle.pol_access_steps.proofs.counters.counters_of.Given as goal

-- the changes so far have set these counters
abbrev pub invariant-loop-first : goal.invariant-loop-first
invariant-loop-first l = record {
  rows : rows_after l.fn.changes l.fn.state.rows ≡ rows_after l.left (counted l.fn.state.rows l.counters);
  valid : AllByRecursion PutsValid l.fn.changes → AllByRecursion PutsValid l.left;
}

abbrev pub decreases-loop-first : goal.decreases-loop-first
decreases-loop-first l = length l.left
