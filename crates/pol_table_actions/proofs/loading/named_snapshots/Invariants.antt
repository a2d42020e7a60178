use Rattle.std.proofs.Common.{◌≡◌, filter, take}
use Rattle.pol_table_actions.specs.Loading.{is_referenced}
use Rattle.pol_table_actions.proofs.loading.named_snapshots.Given as goal

abbrev pub invariant-loop-snapshot : goal.invariant-loop-snapshot
invariant-loop-snapshot l =
    l.named.items ≡ filter (λ snapshot. is_referenced l.refs snapshot.snapshot_id) (take l.snapshot-index l.snapshots)
