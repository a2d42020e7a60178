use Rattle.std.proofs.Common.{◌+◌, length, refl}
use Rattle.pol_disk.specs.Disk.{Torn}
use Rattle.pol_journal.specs.Crash.{IsSame}
use Rattle.pol_journal.proofs.Moments.{one_call, two_runs}
use Rattle.pol_journal.proofs.Steps.{same_follows, torn_none, torn_then_same}
use Rattle.pol_journal.proofs.writes.write_synced.Goals as goal

pub returns-in_err-write_at-clause-crash : goal.returns-in_err-write_at-clause-crash
returns-in_err-write_at-clause-crash g c =
    let d = g.D.Disk in
    one_call d.clock d.left_since d.may_leave (Torn c.args.at (c.args.at + length c.args.bytes.now)) _ _ (torn_none c.args.at (length c.args.bytes.now)) (g.met.D.Disk.only_now c.args.disk.now) c.write_at.ensures.time c.write_at.ensures.crash

pub returns-clause-crash : goal.returns-clause-crash
returns-clause-crash g c =
    let d = g.D.Disk in
    let end = c.args.at + length c.args.bytes.now in
    two_runs d.clock d.left_since d.may_leave (Torn c.args.at end) IsSame (Torn c.args.at end) _ _ _ (λ a b torn. torn) (torn_then_same c.args.at end)
    (one_call d.clock d.left_since d.may_leave (Torn c.args.at end) _ _ (torn_none c.args.at (length c.args.bytes.now)) (g.met.D.Disk.only_now c.args.disk.now) c.write_at.ensures.time c.write_at.ensures.crash)
    (one_call d.clock d.left_since d.may_leave IsSame _ _ (λ image. refl) (g.met.D.Disk.only_now c.write_at.new.self) c.sync.ensures.time (same_follows _ _ c.sync.ensures.crash))
