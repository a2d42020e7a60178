use Rattle.pol_journal.proofs.Moments.{same_after_call}
use Rattle.pol_journal.proofs.reads.synced.Goals as goal

pub returns-clause-untouched : goal.returns-clause-untouched
returns-clause-untouched g c =
    let d = g.D.Disk in
    same_after_call d.clock d.left_since d.may_leave d.seen d.size _ _ (g.met.D.Disk.only_now c.args.disk.now) c.sync.ensures.seen c.sync.ensures.size c.sync.ensures.crash c.sync.ensures.time
