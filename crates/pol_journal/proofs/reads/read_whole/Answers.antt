use Rattle.pol_journal.proofs.Moments.{same_after_call}
use Rattle.pol_journal.proofs.reads.read_whole.Goals as goal

pub returns-in_err-read-clause-untouched : goal.returns-in_err-read-clause-untouched
returns-in_err-read-clause-untouched g c =
    let d = g.D.Disk in
    same_after_call d.clock d.left_since d.may_leave d.seen d.size _ _ (g.met.D.Disk.only_now c.args.disk.now) c.read.ensures.seen c.read.ensures.size c.read.ensures.crash c.read.ensures.time

pub returns-clause-untouched : goal.returns-clause-untouched
returns-clause-untouched g c =
    let d = g.D.Disk in
    same_after_call d.clock d.left_since d.may_leave d.seen d.size _ _ (g.met.D.Disk.only_now c.args.disk.now) c.read.ensures.seen c.read.ensures.size c.read.ensures.crash c.read.ensures.time
