use Rattle.std.proofs.Common.{drop, arith}
use Rattle.std.proofs.lemmas.Result.{err_from_is_err_and}
use Rattle.pol_journal.specs.Format.{IsClosed, IsRecord}
use Rattle.pol_journal.proofs.JournalLemmas.{ends, goes_on, stays}
use Rattle.pol_journal.proofs.ReadLemmas.{told_of, bad_in}
use Rattle.pol_journal.proofs.Steps.{on_err_of}
use Rattle.pol_journal.proofs.journal.Journal.next_record.Goals as goal

pub returns-in_err-body-clause-bad : goal.returns-in_err-body-clause-bad
returns-in_err-body-clause-bad g c file bodies was =
    let d = g.D.Disk in
    let read = rw (← c.self.view_is) at was in
    let p = err_from_is_err_and c.from_residual.result c.from_residual.ensures.1 in
    rw (p.1, p.2, ← c.self.view_is) (bad_in c.self.inside.kind bodies c.self.inside.gate file read.read c.in_err-body.field-0.0 _ _
    (told_of _ _ file read.told c.in_err-body.ensures.broken) c.in_err-body.ensures.refused)

pub returns-in_err-body-clause-still : goal.returns-in_err-body-clause-still
returns-in_err-body-clause-still g c file bodies was =
    let d = g.D.Disk in
    let read = rw (← c.self.view_is) at was in
    on_err_of c.from_residual.result
    (stays d.seen d.may_leave d.clock d.left_since d.fault_count d.size bodies file _ read c.read_record.new.disk c.read_record.ensures.untouched c.read_record.ensures.kept)

pub returns-in_default-2-clause-next : goal.returns-in_default-2-clause-next
returns-in_default-2-clause-next g c file bodies was =
    let d = g.D.Disk in
    let read = rw (← c.self.view_is) at was in
    let closed : IsClosed (drop c.self.inside.gate file) = rw c.in_default-2.is at (told_of (d.seen c.self.inside.disk) _ file read.told c.in_ok-body.ensures.record) in
    ends d.seen d.may_leave d.clock d.left_since d.fault_count d.size bodies file _ read c.read_record.new.disk c.read_record.ensures.untouched c.read_record.ensures.kept closed

pub returns-clause-next : goal.returns-clause-next
returns-clause-next g c file bodies was =
    let d = g.D.Disk in
    let read = rw (← c.self.view_is) at was in
    let is : IsRecord c.in-Some.body.items (drop c.self.inside.gate file) = rw c.in-Some.is at (told_of (d.seen c.self.inside.disk) _ file read.told c.in_ok-body.ensures.record) in
    goes_on d.seen d.may_leave d.clock d.left_since d.fault_count d.size bodies file _ read c.read_record.new.disk c.read_record.ensures.untouched c.read_record.ensures.kept c.in-Some.body.items is _ (omega (arith, c.len.ensures))
