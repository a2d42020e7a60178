use Rattle.std.proofs.Common.{◌≡◌, length, refl, ap, arith}
use Rattle.pol_journal.specs.Journal.{JournalState}
use Rattle.pol_object_store.proofs.HistoryLemmas.{formed_push, goes_on, items_are, rises_still, size_push}
use Rattle.pol_object_store.proofs.ImagesLemmas.{held_recorded, held_undone, images_recorded, images_undone}
use Rattle.pol_object_store.proofs.kept.KeptObjects.act.Goals as goal

pub invariant_of-self-in-Ok-perform : goal.invariant_of-self-in-Ok-perform
invariant_of-self-in-Ok-perform g c =
    let count = g.D.Disk.fault_count in
    let i = c.self.inside in
    let now = c.perform.new.records in
    let is = c.in-Ok-perform.ensures in
    let size = size_push i.base.value i.state i.history i.history c.push.new.self c.args.number c.args.access c.args.action
    c.self.invariant.0 refl c.push.ensures in
    let gate = ap (λ (j : JournalState g.row.D.Denot). j.gate) is.recorded.after in
    let opening : now.opening.faults ≡ i.records.opening.faults = ap (λ (j : JournalState g.row.D.Denot). j.opening.faults) is.recorded.after in (
      goes_on i.base.value i.state i.history i.history c.push.new.self c.args.number c.args.access c.args.action
          c.self.invariant.0 refl c.push.ensures c.perform.new.state is.next,
      rw (c.reserve.ensures.marks, opening)
          (rises_still (length i.marks.items) i.records.opening.faults (count i.records.disk) (count now.disk) c.perform.ensures.kept c.self.invariant.1),
      omega (arith, size, gate, c.self.invariant.2),
      formed_push i.base.value i.state i.history i.history c.push.new.self c.args.number c.args.access c.args.action
          c.self.invariant.0 refl c.push.ensures c.self.invariant.3 is.formed,
    )

pub returns-in-Ok-perform-clause-images : goal.returns-in-Ok-perform-clause-images
returns-in-Ok-perform-clause-images g c opening keeps =
    let d = g.D.Disk in
    let i = c.self.inside in
    images_recorded d.seen d.may_leave d.clock d.left_since d.fault_count opening i.base.value i.state i.history c.push.new.self i.records c.perform.new.records c.self.invariant.0
    (rw (← c.self.view_is) at keeps) _ (items_are i.base.value i.state i.history i.history c.push.new.self c.args.number c.args.access c.args.action
    c.self.invariant.0 refl c.push.ensures) c.in-Ok-perform.ensures.recorded c.in-Ok-perform.ensures.formed

pub returns-in-Ok-perform-clause-lost : goal.returns-in-Ok-perform-clause-lost
returns-in-Ok-perform-clause-lost g c opening lost held =
    let d = g.D.Disk in
    let i = c.self.inside in
    held_recorded d.seen d.may_leave d.clock d.left_since d.fault_count opening i.base.value i.state i.history c.push.new.self lost i.records c.perform.new.records c.self.invariant.0
    (rw (← c.self.view_is) at held) _ (items_are i.base.value i.state i.history i.history c.push.new.self c.args.number c.args.access c.args.action
    c.self.invariant.0 refl c.push.ensures) c.in-Ok-perform.ensures.recorded

pub returns-in-Ok-perform-clause-formed : goal.returns-in-Ok-perform-clause-formed
returns-in-Ok-perform-clause-formed g c =
    let i = c.self.inside in
    formed_push i.base.value i.state i.history i.history c.push.new.self c.args.number c.args.access c.args.action
    c.self.invariant.0 refl c.push.ensures c.self.invariant.3 c.in-Ok-perform.ensures.formed

pub returns-in-Ok-perform-clause-opened : goal.returns-in-Ok-perform-clause-opened
returns-in-Ok-perform-clause-opened g c =
    let i = c.self.inside in
    let size = size_push i.base.value i.state i.history i.history c.push.new.self c.args.number c.args.access c.args.action
    c.self.invariant.0 refl c.push.ensures in
    let gate = ap (λ (j : JournalState g.row.D.Denot). j.gate) c.in-Ok-perform.ensures.recorded.after in
    rw (← c.self.view_is) (omega (arith, size, gate, c.self.invariant.2))

pub returns-in-Err-clause-images : goal.returns-in-Err-clause-images
returns-in-Err-clause-images g c opening keeps =
    let d = g.D.Disk in
    let i = c.self.inside in
    images_undone d.seen d.may_leave d.clock d.left_since d.fault_count opening i.base.value i.state i.history i.history i.records c.perform.new.records c.self.invariant.0
    (rw (← c.self.view_is) at keeps) c.args.action c.in-Err.why refl c.in-Err.ensures.undone c.in-Err.ensures.formed

pub returns-in-Err-clause-lost : goal.returns-in-Err-clause-lost
returns-in-Err-clause-lost g c opening lost held =
    let d = g.D.Disk in
    let i = c.self.inside in
    rw (← c.self.view_is, c.undone.ensures.told)
    (held_undone d.seen d.may_leave d.clock d.left_since d.fault_count opening i.base.value i.state i.history i.history lost i.records c.perform.new.records c.self.invariant.0
    (rw (← c.self.view_is) at held) c.args.action c.in-Err.why c.in-Err.ensures.undone)
