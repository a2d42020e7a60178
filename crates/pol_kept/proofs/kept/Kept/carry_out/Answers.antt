use Rattle.std.proofs.Common.{◌≡◌, [], ◌∷◌, ◌++◌, refl, sym, ap, subst, ◌∙◌}
use Rattle.pol_machine.proofs.DecisionLemmas.{next-sound}
use Rattle.pol_machine.specs.Machine.{next_state}
use Rattle.pol_state.specs.Rows.{Rows}
use Rattle.pol_state.specs.Sound.{IsSound}
use Rattle.pol_kept.specs.History.{bodies_of, state_at, state_of}
use Rattle.pol_kept.specs.Stages.{marks_by}
use Rattle.pol_kept.specs.declared.entry.Entry.{Entry}
use Rattle.pol_kept.proofs.CarriedLemmas.{carried-goes, carried-holds, carried-idle, carried-rises, carried-within, left-goes, left-holds, left-idle}
use Rattle.pol_kept.proofs.EntryLemmas.{state_at-push}
use Rattle.pol_kept.proofs.FormedLemmas.{formed-by}
use Rattle.pol_kept.proofs.kept.Kept.carry_out.Goals as goal

pub returns-in-Err-clause-goes_on : goal.returns-in-Err-clause-goes_on
returns-in-Err-clause-goes_on g c =
    let d = g.D.Disk in
    let s = c.self.inside in
    let sound = subst IsSound (c.self.invariant.0 ∙ ap state_of c.self.view_is) c.self.invariant.1 in
    let formed = formed-by (state_of c.args.self.now) c.args.command c.args.changes.items c.requires.changes (next-sound (state_of c.args.self.now) c.args.command sound c.requires.moment)
    (rw c.as_slice.ensures.value at c.in-Ok.ensures.form) in
    left-goes d.seen d.may_leave d.clock d.left_since d.fault_count s.base.value.rows s.history s.marks.items s.records c.write.new.records c.args.self.now c.self.view_is
    c.args.number c.args.command c.args.changes.items c.requires.changes c.self.invariant.3 c.write.ensures.kept
    _ (c.in-Ok.ensures.body ∙ ap bodies_of c.as_slice.ensures.value)
    c.in-Err.why s.history c.mark.new.marks.items refl
    (c.mark.ensures.marks ∙ ap (marks_by c.in-Err.why c.args.number) c.make_ready.ensures.marks) c.in-Err.ensures.left_out formed

pub invariant_of-self-2 : goal.invariant_of-self-2
invariant_of-self-2 g c =
    let d = g.D.Disk in
    let s = c.self.inside in
    let entry : Entry = record { number = c.args.number; command = c.args.command } in
    let items : c.enter.new.history ≡ s.history ++ entry ∷ [] = c.enter.ensures.items in
    let next : c.enter.new.state.rows ≡ next_state s.state.rows c.args.command = c.enter.ensures.rows ∙ ap (λ (rows : Rows). next_state rows c.args.command) c.make_ready.ensures.rows in (
      state_at-push s.base.value.rows s.state.rows c.enter.new.state.rows s.history entry c.self.invariant.0 next ∙ ap (state_at s.base.value.rows) (sym items),
      c.enter.ensures.sound,
      carried-rises d.seen d.may_leave d.clock d.left_since d.fault_count s.base.value.rows s.history s.marks.items s.records c.write.new.records c.args.self.now c.self.view_is
          c.args.number c.args.command c.args.changes.items c.requires.changes c.self.invariant.3 c.write.ensures.kept
          _ (c.in-Ok.ensures.body ∙ ap bodies_of c.as_slice.ensures.value)
          c.enter.new.history c.make_ready.new.marks.items items c.make_ready.ensures.marks c.in_default-write.ensures.written c.self.invariant.2,
      carried-within d.seen d.may_leave d.clock d.left_since d.fault_count s.base.value.rows s.history s.marks.items s.records c.write.new.records c.args.self.now c.self.view_is
          c.args.number c.args.command c.args.changes.items c.requires.changes c.self.invariant.3 c.write.ensures.kept
          _ (c.in-Ok.ensures.body ∙ ap bodies_of c.as_slice.ensures.value)
          c.enter.new.history c.make_ready.new.marks.items items c.make_ready.ensures.marks c.in_default-write.ensures.written,
    )

pub returns-clause-goes_on : goal.returns-clause-goes_on
returns-clause-goes_on g c =
    let d = g.D.Disk in
    let s = c.self.inside in
    let entry : Entry = record { number = c.args.number; command = c.args.command } in
    let items : c.enter.new.history ≡ s.history ++ entry ∷ [] = c.enter.ensures.items in
    let sound = subst IsSound (c.self.invariant.0 ∙ ap state_of c.self.view_is) c.self.invariant.1 in
    let formed = formed-by (state_of c.args.self.now) c.args.command c.args.changes.items c.requires.changes (next-sound (state_of c.args.self.now) c.args.command sound c.requires.moment)
    (rw c.as_slice.ensures.value at c.in-Ok.ensures.form) in
    carried-goes d.seen d.may_leave d.clock d.left_since d.fault_count s.base.value.rows s.history s.marks.items s.records c.write.new.records c.args.self.now c.self.view_is
    c.args.number c.args.command c.args.changes.items c.requires.changes c.self.invariant.3 c.write.ensures.kept
    _ (c.in-Ok.ensures.body ∙ ap bodies_of c.as_slice.ensures.value)
    c.enter.new.history c.make_ready.new.marks.items items c.make_ready.ensures.marks c.in_default-write.ensures.written formed

pub returns-clause-idle : goal.returns-clause-idle
returns-clause-idle g c =
    let d = g.D.Disk in
    let s = c.self.inside in
    let entry : Entry = record { number = c.args.number; command = c.args.command } in
    let items : c.enter.new.history ≡ s.history ++ entry ∷ [] = c.enter.ensures.items in
    carried-idle d.seen d.may_leave d.clock d.left_since d.fault_count s.base.value.rows s.history s.marks.items s.records c.write.new.records c.args.self.now c.self.view_is
    c.args.number c.args.command c.args.changes.items c.requires.changes c.self.invariant.3 c.write.ensures.kept
    _ (c.in-Ok.ensures.body ∙ ap bodies_of c.as_slice.ensures.value)
    c.enter.new.history c.make_ready.new.marks.items items c.make_ready.ensures.marks c.in_default-write.ensures.written

pub returns-in-Err-clause-idle : goal.returns-in-Err-clause-idle
returns-in-Err-clause-idle g c =
    let d = g.D.Disk in
    let s = c.self.inside in
    left-idle d.seen d.may_leave d.clock d.left_since d.fault_count s.base.value.rows s.history s.marks.items s.records c.write.new.records c.args.self.now c.self.view_is
    c.args.number c.args.command c.args.changes.items c.requires.changes c.self.invariant.3 c.write.ensures.kept
    _ (c.in-Ok.ensures.body ∙ ap bodies_of c.as_slice.ensures.value)
    c.in-Err.why s.history c.mark.new.marks.items refl
    (c.mark.ensures.marks ∙ ap (marks_by c.in-Err.why c.args.number) c.make_ready.ensures.marks) c.in-Err.ensures.left_out

pub returns-clause-holds : goal.returns-clause-holds
returns-clause-holds g c opening lost =
    let d = g.D.Disk in
    let s = c.self.inside in
    let entry : Entry = record { number = c.args.number; command = c.args.command } in
    let items : c.enter.new.history ≡ s.history ++ entry ∷ [] = c.enter.ensures.items in
    carried-holds d.seen d.may_leave d.clock d.left_since d.fault_count s.base.value.rows s.history s.marks.items s.records c.write.new.records c.args.self.now c.self.view_is
    c.args.number c.args.command c.args.changes.items c.requires.changes c.self.invariant.3 c.write.ensures.kept
    _ (c.in-Ok.ensures.body ∙ ap bodies_of c.as_slice.ensures.value)
    c.enter.new.history c.make_ready.new.marks.items items c.make_ready.ensures.marks c.in_default-write.ensures.written opening lost

pub returns-in-Err-clause-lost : goal.returns-in-Err-clause-lost
returns-in-Err-clause-lost g c opening lost =
    let d = g.D.Disk in
    let s = c.self.inside in
    rw c.mark.ensures.undone
    (left-holds d.seen d.may_leave d.clock d.left_since d.fault_count s.base.value.rows s.history s.marks.items s.records c.write.new.records c.args.self.now c.self.view_is
    c.args.number c.args.command c.args.changes.items c.requires.changes c.self.invariant.3 c.write.ensures.kept
    _ (c.in-Ok.ensures.body ∙ ap bodies_of c.as_slice.ensures.value)
    c.in-Err.why s.history c.mark.new.marks.items refl
    (c.mark.ensures.marks ∙ ap (marks_by c.in-Err.why c.args.number) c.make_ready.ensures.marks) c.in-Err.ensures.left_out opening lost)
