use Rattle.std.proofs.Common.{◌≡◌, ◌++◌}
use Rattle.pol_metajson.proofs.siblings.Siblings.with.Given as goal

abbrev pub invariant-loop-column : goal.invariant-loop-column
invariant-loop-column l = (l.siblings.depth ≡ l.fn.self.depth) × (l.siblings.columns ≡ l.fn.self.columns ++ l.yielded)
