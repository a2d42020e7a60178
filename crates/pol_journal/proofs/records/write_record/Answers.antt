use Rattle.std.proofs.Common.{◌≡◌, ◌+◌, max, [], ◌∷◌, ◌++◌, length, arith}
use Rattle.pol_journal.specs.Format.{framed}
use Rattle.pol_journal.proofs.BytesLemmas.{told_before}
use Rattle.pol_journal.proofs.RecordLemmas.{body_moments, body_hangs, body_staged, both_moments, gate_hangs, gate_opened, still_told}
use Rattle.pol_journal.proofs.Steps.{past_gate, told_both}
use Rattle.pol_journal.proofs.records.write_record.Goals as goal

pub returns-in_default-clause-moments : goal.returns-in_default-clause-moments
returns-in_default-clause-moments g c kind bodies stands =
    let d = g.D.Disk in
    body_moments d.clock d.left_since d.may_leave d.seen kind bodies c.args.body.now c.args.gate _ _ stands c.write_body.ensures.crash

pub returns-in_default-clause-failed : goal.returns-in_default-clause-failed
returns-in_default-clause-failed g c kind bodies stands =
    let d = g.D.Disk in
    body_hangs d.clock d.left_since d.may_leave d.seen kind bodies c.args.body.now c.args.gate _ _ _ stands c.write_body.ensures.told c.write_body.ensures.crash

pub returns-in_default-write_synced-clause-moments : goal.returns-in_default-write_synced-clause-moments
returns-in_default-write_synced-clause-moments g c kind bodies stands =
    let d = g.D.Disk in
    both_moments d.clock d.left_since d.may_leave d.seen kind bodies c.args.body.now c.args.gate _ _ _ (g.met.D.Disk.reads_as_image c.args.disk.now) stands
    c.write_body.ensures.crash c.in-Ok.ensures.written c.in-Ok.ensures.durable c.write_synced.ensures.crash

pub returns-in_default-write_synced-clause-failed : goal.returns-in_default-write_synced-clause-failed
returns-in_default-write_synced-clause-failed g c kind bodies stands =
    let d = g.D.Disk in
    let staged = body_staged d.clock d.left_since d.may_leave d.seen kind bodies c.args.body.now c.args.gate _ _ (g.met.D.Disk.reads_as_image c.args.disk.now) stands c.in-Ok.ensures.written c.in-Ok.ensures.durable in
    gate_hangs d.clock d.left_since d.may_leave d.seen kind bodies c.args.body.now c.args.gate _ _ _ stands.place
    (still_told _ _ _ stands.told c.in-Ok.ensures.told) staged c.write_synced.ensures.told c.write_synced.ensures.crash

pub returns-clause-moments : goal.returns-clause-moments
returns-clause-moments g c kind bodies stands =
    let d = g.D.Disk in
    both_moments d.clock d.left_since d.may_leave d.seen kind bodies c.args.body.now c.args.gate _ _ _ (g.met.D.Disk.reads_as_image c.args.disk.now) stands
    c.write_body.ensures.crash c.in-Ok.ensures.written c.in-Ok.ensures.durable c.write_synced.ensures.crash

pub returns-clause-appended : goal.returns-clause-appended
returns-clause-appended g c kind bodies stands =
    let d = g.D.Disk in
    let staged = body_staged d.clock d.left_since d.may_leave d.seen kind bodies c.args.body.now c.args.gate _ _ (g.met.D.Disk.reads_as_image c.args.disk.now) stands c.in-Ok.ensures.written c.in-Ok.ensures.durable in
    gate_opened d.clock d.left_since d.may_leave d.seen kind bodies c.args.body.now c.args.gate _ _ stands.place
    (still_told _ _ _ stands.told c.in-Ok.ensures.told) (g.met.D.Disk.reads_as_image c.write_body.new.disk) staged c.in-Ok-write_synced.ensures.written c.in-Ok-write_synced.ensures.durable

pub returns-clause-bytes : goal.returns-clause-bytes
returns-clause-bytes g c =
    told_before c.args.gate (1 ∷ []) (framed c.args.body.now ++ 0 ∷ []) _ _ _ _ (g.met.D.Disk.tells_size c.args.disk.now) (past_gate _ c.args.gate c.requires.within)
    c.in-Ok.ensures.written c.in-Ok-write_synced.ensures.written

pub returns-clause-reach : goal.returns-clause-reach
returns-clause-reach g c =
    let end = c.args.gate + 10 + length c.args.body.now in
    told_both (λ old new. new ≡ max old end) (λ old new. new ≡ max old (c.args.gate + 1)) (λ old new. new ≡ max old end) _ _ _ (λ x y z first second. omega (arith, first, second))
    c.in-Ok.ensures.reach c.in-Ok-write_synced.ensures.size
