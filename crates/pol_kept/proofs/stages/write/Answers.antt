use Rattle.pol_journal.specs.declared.stage.Stage.TheVariants.{Ready}
use Rattle.pol_kept.proofs.WriteLemmas.{if-err, left-out, on-ok, written}
use Rattle.pol_kept.proofs.stages.write.Goals as goal

pub returns-clause-written : goal.returns-clause-written
returns-clause-written g c =
    let d = g.D.Disk in
    let old = c.args.records.now in
    let new = c.write-written.new.self in
    let is = c.write-written.ensures in
    rw (c.in-Some.is, ← c.as_slice.ensures.value)
    (on-ok c.write-written.result
    (λ holds after fits. written d.seen d.may_leave d.clock d.left_since d.fault_count c.as_slice.result.now old new new.disk Ready after holds fits)
    is.written is.after is.fits)

pub returns-clause-left_out : goal.returns-clause-left_out
returns-clause-left_out g c =
    let d = g.D.Disk in
    let old = c.args.records.now in
    let new = c.write-written.new.self in
    let is = c.write-written.ensures in
    rw (c.in-Some.is, ← c.as_slice.ensures.value)
    (if-err c.write-written.result _ _ _
    (λ why left holds cause. left-out d.seen d.may_leave d.clock d.left_since d.fault_count c.as_slice.result.now old new why new.disk new.stage left holds cause)
    is.left is.lost is.refused)
