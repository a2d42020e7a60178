use Rattle.std.proofs.Common.{◌≡◌, ◌++◌}
use Rattle.pol_columncodec.proofs.inner.joined.Given as goal

abbrev pub invariant-loop-column : goal.invariant-loop-column
invariant-loop-column l = l.columns.items ≡ l.fn.first ++ l.yielded
