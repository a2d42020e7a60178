use Rattle.pol_records.proofs.HoldingLemmas.{loses, not_repaired, repaired}
use Rattle.pol_records.proofs.records.Records.take_back.Goals as goal

pub returns-in_default-clause-holds : goal.returns-in_default-clause-holds
returns-in_default-clause-holds g c opening written lost holds =
    let d = g.D.Disk in
    let was = rw (← c.self.view_is) at holds in
    let failed = rw (← c.self.view_is) at c.requires in
    not_repaired d.seen d.may_leave d.clock d.left_since d.fault_count opening written lost _ _ was _ _ c.in_default.ensures.left c.repair.ensures.kept
    c.repair.ensures.moments c.in_default.ensures.unsettled (loses d.seen d.may_leave d.clock d.left_since d.fault_count opening written lost _ failed was.now)

pub returns-clause-holds : goal.returns-clause-holds
returns-clause-holds g c opening written lost holds =
    let d = g.D.Disk in
    let was = rw (← c.self.view_is) at holds in
    let failed = rw (← c.self.view_is) at c.requires in
    repaired d.seen d.may_leave d.clock d.left_since d.fault_count opening written lost _ _ was _ _ c.in-Ok.ensures.after c.repair.ensures.kept
    c.repair.ensures.moments c.in-Ok.ensures.repaired (loses d.seen d.may_leave d.clock d.left_since d.fault_count opening written lost _ failed was.now)
