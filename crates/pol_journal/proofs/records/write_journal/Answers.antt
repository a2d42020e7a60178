use Rattle.std.proofs.lemmas.Result.{on_ok_weaker}
use Rattle.pol_journal.proofs.BytesLemmas.{no_bytes, told_journal}
use Rattle.pol_journal.proofs.CreateLemmas.{two_writes, three_writes, made}
use Rattle.pol_journal.proofs.Steps.{on_ok_both}
use Rattle.pol_journal.proofs.records.write_journal.Goals as goal

pub returns-in_err-write_both-clause-moments : goal.returns-in_err-write_both-clause-moments
returns-in_err-write_both-clause-moments g c bodies area none =
    let d = g.D.Disk in
    two_writes d.clock d.left_since d.may_leave d.seen g.met.D.Disk.reads_as_image c.args.kind bodies c.args.first.now area _ _ _ none
    c.write_synced.ensures.crash (record { bytes = c.in_ok-write_synced.ensures.written; durable = c.in_ok-write_synced.ensures.durable }) c.write_both.ensures.crash

pub returns-clause-moments : goal.returns-clause-moments
returns-clause-moments g c bodies area none =
    let d = g.D.Disk in
    three_writes d.clock d.left_since d.may_leave d.seen g.met.D.Disk.reads_as_image c.args.kind bodies c.args.first.now area _ _ _ _ none
    c.write_synced.ensures.crash (record { bytes = c.in_ok-write_synced.ensures.written; durable = c.in_ok-write_synced.ensures.durable })
    c.write_both.ensures.crash (record { bytes = c.in_ok-write_both.ensures.written; durable = c.in_ok-write_both.ensures.durable })
    c.name.result c.name.ensures c.write_synced-2.ensures.crash

pub returns-clause-made : goal.returns-clause-made
returns-clause-made g c =
    let d = g.D.Disk in
    on_ok_both c.write_synced-2.result (λ wrote durable. λ bodies area none.
    made d.clock d.left_since d.may_leave d.seen g.met.D.Disk.reads_as_image c.args.kind bodies c.args.first.now area _ _ _ _ none
    (record { bytes = c.in_ok-write_synced.ensures.written; durable = c.in_ok-write_synced.ensures.durable })
    (record { bytes = c.in_ok-write_both.ensures.written; durable = c.in_ok-write_both.ensures.durable })
    c.name.result c.name.ensures (record { bytes = wrote; durable = durable }))
    c.write_synced-2.ensures.written c.write_synced-2.ensures.durable

pub returns-clause-bytes : goal.returns-clause-bytes
returns-clause-bytes g c =
    on_ok_weaker c.write_synced-2.result
    (told_journal c.args.kind c.args.first.now c.name.result _ _ _ _ c.name.ensures (no_bytes _ _ (g.met.D.Disk.tells_size c.args.disk.now) c.requires.empty)
    c.in_ok-write_synced.ensures.written c.in_ok-write_both.ensures.written)
    c.write_synced-2.ensures.written
