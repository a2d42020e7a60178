use Rattle.pol_journal.specs.Journal.{Hangs}
use Rattle.pol_journal.specs.declared.stage.Reached.TheVariants.{Gate}
use Rattle.pol_journal.proofs.RecordLemmas.{gate_moments, gate_shut, gate_hangs}
use Rattle.pol_journal.proofs.Steps.{on_ok_both, on_err_of}
use Rattle.pol_journal.proofs.records.take_back.Goals as goal

pub returns-in-Gate-clause-moments : goal.returns-in-Gate-clause-moments
returns-in-Gate-clause-moments g c kind bodies body hangs =
    let d = g.D.Disk in
    let at : Hangs Gate kind bodies body c.args.gate (d.seen c.args.disk.now) (d.may_leave c.args.disk.now) = rw c.in-Gate.is at hangs in
    gate_moments d.clock d.left_since d.may_leave d.seen kind bodies body c.args.gate _ _ at.place at.left c.write_synced.ensures.crash

pub returns-in-Gate-clause-taken_back : goal.returns-in-Gate-clause-taken_back
returns-in-Gate-clause-taken_back g c =
    let d = g.D.Disk in
    on_ok_both c.write_synced.result (λ wrote durable. λ kind bodies body hangs.
    let at : Hangs Gate kind bodies body c.args.gate (d.seen c.args.disk.now) (d.may_leave c.args.disk.now) = rw c.in-Gate.is at hangs in
    gate_shut d.clock d.left_since d.may_leave d.seen kind bodies body c.args.gate _ _ at.place at.told (g.met.D.Disk.reads_as_image c.args.disk.now) at.left wrote durable)
    c.write_synced.ensures.written c.write_synced.ensures.durable

pub returns-in-Gate-clause-failed : goal.returns-in-Gate-clause-failed
returns-in-Gate-clause-failed g c =
    let d = g.D.Disk in
    on_err_of c.write_synced.result (λ kind bodies body hangs.
    let at : Hangs Gate kind bodies body c.args.gate (d.seen c.args.disk.now) (d.may_leave c.args.disk.now) = rw c.in-Gate.is at hangs in
    rw c.in-Gate.is (gate_hangs d.clock d.left_since d.may_leave d.seen kind bodies body c.args.gate _ _ _ at.place at.told at.left c.write_synced.ensures.told c.write_synced.ensures.crash))
