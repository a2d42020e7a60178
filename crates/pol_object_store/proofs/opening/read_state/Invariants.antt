use Rattle.std.proofs.Common.{◌-◌, ◌^◌}
use Rattle.pol_object_store.proofs.ReadingLemmas.{Reads}
use Rattle.pol_object_store.proofs.opening.read_state.Given as goal

abbrev pub invariant-records : goal.invariant-records
invariant-records g l =
    let d = g.D.Disk in Reads d.seen d.may_leave d.clock d.left_since d.fault_count d.size l.fn.journal l.journal l.objects

abbrev pub decreases-records : goal.decreases-records
decreases-records g l = 2 ^ 64 - l.journal.gate
