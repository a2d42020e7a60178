use Rattle.std.proofs.Common.{◌≡◌, map}
use Rattle.pol_bodies.proofs.CommitBodyLemmas.{bare}
use Rattle.pol_bodies.proofs.commit_bodies.all_changed_in.Given as goal

abbrev pub invariant-loop-change : goal.invariant-loop-change
invariant-loop-change l = map bare l.commits.items ≡ l.yielded
