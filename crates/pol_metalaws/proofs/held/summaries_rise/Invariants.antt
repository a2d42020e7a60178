use Rattle.std.proofs.Common.{All, take}
use Rattle.pol_properties.specs.Properties.{KeysAscend}
use Rattle.pol_metalaws.proofs.held.summaries_rise.Given as goal

abbrev pub invariant-loop-snapshot : goal.invariant-loop-snapshot
invariant-loop-snapshot l = All (λ snapshot. KeysAscend snapshot.summary) (take l.snapshot-index l.snapshots)
