use Rattle.std.proofs.Common.{refl}
use Rattle.pol_journal.proofs.JournalLemmas.{hangs_at}
use Rattle.pol_journal.proofs.Steps.{on_err_of}
use Rattle.pol_journal.proofs.journal.Journal.repair.Goals as goal

pub returns-in_err-take_back-clause-moments : goal.returns-in_err-take_back-clause-moments
returns-in_err-take_back-clause-moments g c bodies body was =
    let d = g.D.Disk in
    let is = rw (← c.self.view_is) at was in
    rw (← c.self.view_is) (c.take_back.ensures.moments c.self.inside.kind bodies body (hangs_at d.seen d.may_leave bodies body _ c.in-Unsettled.reached c.in-Unsettled.is is))

pub returns-in_err-take_back-clause-unsettled : goal.returns-in_err-take_back-clause-unsettled
returns-in_err-take_back-clause-unsettled g c = on_err_of c.from_residual.result (λ bodies body was.
    let d = g.D.Disk in
    let is = rw (← c.self.view_is) at was in record {
      reached = c.in-Unsettled.reached;
      failed = c.in-Unsettled.is;
      hangs = c.in_err-take_back.ensures.failed c.self.inside.kind bodies body (hangs_at d.seen d.may_leave bodies body _ c.in-Unsettled.reached c.in-Unsettled.is is);
    })

pub returns-in_ok-take_back-clause-moments : goal.returns-in_ok-take_back-clause-moments
returns-in_ok-take_back-clause-moments g c bodies body was =
    let d = g.D.Disk in
    let is = rw (← c.self.view_is) at was in
    rw (← c.self.view_is) (c.take_back.ensures.moments c.self.inside.kind bodies body (hangs_at d.seen d.may_leave bodies body _ c.in-Unsettled.reached c.in-Unsettled.is is))

pub returns-in_ok-take_back-clause-repaired : goal.returns-in_ok-take_back-clause-repaired
returns-in_ok-take_back-clause-repaired g c bodies body was =
    let d = g.D.Disk in
    let is = rw (← c.self.view_is) at was in record {
      ready = refl;
      stands = c.in_ok-take_back.ensures.taken_back c.self.inside.kind bodies body (hangs_at d.seen d.may_leave bodies body _ c.in-Unsettled.reached c.in-Unsettled.is is);
    }
