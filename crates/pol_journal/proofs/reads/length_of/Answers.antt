use Rattle.pol_journal.proofs.Moments.{same_after_call}
use Rattle.pol_journal.proofs.reads.length_of.Goals as goal

pub returns-clause-untouched : goal.returns-clause-untouched
returns-clause-untouched g c =
    let d = g.D.Disk in
    same_after_call d.clock d.left_since d.may_leave d.seen d.size _ _ (g.met.D.Disk.only_now c.args.disk.now) c.length.ensures.seen c.length.ensures.size c.length.ensures.crash c.length.ensures.time
