use Rattle.std.proofs.Common.{◌≡◌, ◌++◌, map, take}
use Rattle.pol_states.proofs.put.push_facts.Given as goal

abbrev pub invariant-loop-fact : goal.invariant-loop-fact
invariant-loop-fact g l = l.changes.items ≡ l.initial.changes.items ++ map g.R.Put.change (take l.fact-index l.facts)
