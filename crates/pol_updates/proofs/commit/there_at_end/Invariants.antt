use Rattle.std.proofs.Common.{◌≡◌, ◌≤◌, ◌+◌, Bool, length, nat_eq, take}
use Rattle.std.specs.List.{suffix_len}
use Rattle.indexmap.specs.IndexSet.{contains}
use Rattle.pol_meta.specs.declared.log.SnapshotLogEntry.{SnapshotLogEntry}
use Rattle.pol_updates.proofs.commit.there_at_end.Given as goal

abbrev pub invariant-loop-start : goal.invariant-loop-start
invariant-loop-start l =
    let is_of : SnapshotLogEntry → Bool = λ entry. contains nat_eq l.ids entry.snapshot_id in
    (l.start ≤ length l.log)
    × (l.start + suffix_len is_of l.log ≡ length l.log + suffix_len is_of (take l.start l.log))

abbrev pub decreases-loop-start : goal.decreases-loop-start
decreases-loop-start l = l.start
