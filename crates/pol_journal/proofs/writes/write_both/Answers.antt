use Rattle.std.proofs.Common.{refl, arith}
use Rattle.std.proofs.lemmas.Result.{on_ok_weaker}
use Rattle.pol_journal.specs.Crash.{KeepsFront}
use Rattle.pol_journal.proofs.Moments.{one_call, two_runs}
use Rattle.pol_journal.proofs.Steps.{keeps_none, keeps_both, torn_follows_front, torn_keeps, told_next}
use Rattle.pol_journal.proofs.writes.write_both.Goals as goal

pub returns-in_err-write_at-clause-crash : goal.returns-in_err-write_at-clause-crash
returns-in_err-write_at-clause-crash g c =
    let d = g.D.Disk in
    one_call d.clock d.left_since d.may_leave (KeepsFront c.args.at) _ _ (keeps_none c.args.at) (g.met.D.Disk.only_now c.args.disk.now) c.write_at.ensures.time
    (torn_follows_front c.args.at c.args.at _ _ _ (omega arith) c.write_at.ensures.crash)

pub returns-clause-written : goal.returns-clause-written
returns-clause-written g c =
    on_ok_weaker c.write_synced.result
    (told_next c.args.at _ c.args.first.now c.args.second.now _ _ _ _ _ (g.met.D.Disk.tells_size c.args.disk.now) c.requires.within refl refl c.in_ok-write_at.ensures.written)
    c.write_synced.ensures.written

pub returns-clause-crash : goal.returns-clause-crash
returns-clause-crash g c =
    let d = g.D.Disk in
    let at = c.args.at in
    two_runs d.clock d.left_since d.may_leave (KeepsFront at) _ (KeepsFront at) _ _ _ (λ a b keeps. keeps)
    (λ x y z keeps torn. keeps_both at x y z keeps (torn_keeps at _ _ y z (omega arith) torn))
    (one_call d.clock d.left_since d.may_leave (KeepsFront at) _ _ (keeps_none at) (g.met.D.Disk.only_now c.args.disk.now) c.write_at.ensures.time
    (torn_follows_front at at _ _ _ (omega arith) c.write_at.ensures.crash))
    c.write_synced.ensures.crash
