use Rattle.std.proofs.Common.{◌≡◌, ◌++◌, map}
use Rattle.pol_sound_access.proofs.differ.fact_keys_differ.Given as goal

-- the keys that were seen are those of the facts before those that are left
abbrev pub invariant-loop-fact : goal.invariant-loop-fact
invariant-loop-fact g l = l.seen.keys ++ map g.R.Told.told l.fact-iterator ≡ map g.R.Told.told l.fn.facts
