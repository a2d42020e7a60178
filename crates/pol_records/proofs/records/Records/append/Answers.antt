use Rattle.std.proofs.Common.{Err, ap}
use Rattle.pol_records.proofs.HoldingLemmas.{append_refused, appended, rests_on}
use Rattle.pol_records.proofs.records.Records.append.Goals as goal

pub returns-in_default-clause-written : goal.returns-in_default-clause-written
returns-in_default-clause-written g c opening written lost holds =
    let d = g.D.Disk in
    let was = rw (← c.self.view_is) at holds in
    let ready = rw (← c.self.view_is) at c.requires in
    appended d.seen d.may_leave d.clock d.left_since d.fault_count opening written lost _ _ was _ _ c.in_default.ensures.after c.append.ensures.kept c.args.body.now
    c.append.ensures.moments (rests_on d.seen d.may_leave d.clock d.left_since d.fault_count opening written lost _ ready was.now) c.in_default.ensures.appended

pub returns-clause-lost : goal.returns-clause-lost
returns-clause-lost g c opening written lost holds =
    let d = g.D.Disk in
    let was = rw (← c.self.view_is) at holds in
    let ready = rw (← c.self.view_is) at c.requires in
    rw (c.why_unwritten.ensures)
    (append_refused d.seen d.may_leave d.clock d.left_since d.fault_count opening written lost _ _ ready c.args.body.now _ c.in-Err.ensures.left c.append.ensures.kept
    (λ far. (c.append.ensures.full far).0) c.in-Err.refused c.in-Err.ensures.refused c.append.ensures.moments (λ is. c.in-Err.ensures.unknown (ap Err is)) was)
