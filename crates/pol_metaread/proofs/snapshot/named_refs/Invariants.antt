use Rattle.std.proofs.Common.{◌≡◌, map}
use Rattle.pol_metaread.specs.Snapshot.{named_of}
use Rattle.pol_metaread.proofs.snapshot.named_refs.Given as goal

abbrev pub invariant-loop-name : goal.invariant-loop-name
invariant-loop-name l = l.refs.items ≡ map named_of l.yielded
