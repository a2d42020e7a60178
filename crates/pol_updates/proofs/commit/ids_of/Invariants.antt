use Rattle.std.proofs.Common.{◌≡◌, ℕ, nat_eq, take}
use Rattle.indexmap.specs.IndexSet.{contains}
use Rattle.pol_updates.specs.Snapshots.{has_snapshot}
use Rattle.pol_updates.proofs.commit.ids_of.Given as goal

abbrev pub invariant-loop-snapshot : goal.invariant-loop-snapshot
invariant-loop-snapshot l = (id : ℕ) → contains nat_eq l.ids id ≡ has_snapshot (take l.snapshot-index l.snapshots) id
