use Rattle.std.proofs.Common.{[], refl, sym}
use Rattle.pol_object_store.proofs.HistoryLemmas.{begins}
use Rattle.pol_object_store.proofs.ImagesLemmas.{images_begin}
use Rattle.pol_object_store.proofs.kept.KeptObjects.of.Goals as goal

pub invariant_of-result : goal.invariant_of-result
invariant_of-result g c =
    let new = begins c.of-base.result.value c.args.state c.new.result c.new-2.result.items c.args.journal.opening.faults (g.D.Disk.fault_count c.args.journal.disk) c.args.journal.gate
    (sym c.of-base.ensures) c.new.ensures c.new-2.ensures.items c.requires.counted in
    rw c.of.ensures.journal (new.state_is, new.marked, new.within, new.formed)

pub returns-clause-images : goal.returns-clause-images
returns-clause-images g c opening rest since =
    let d = g.D.Disk in
    images_begin d.seen d.may_leave d.clock d.left_since d.fault_count opening c.args.state [] c.args.journal refl
    (rw c.of.ensures.journal at (c.of.ensures.holds opening rest since))
