use Rattle.std.proofs.Common.{◌≡◌, ◌+◌, ◌≤◌, ◌^◌, List, subst, ap, ◌∙◌, rules}
use Rattle.pol_state.specs.Rows.{Rows}
use Rattle.pol_records.specs.Holding.{Holds, Lost}
use Rattle.pol_kept.specs.History.{changes_of, records, state_of}
use Rattle.pol_kept.proofs.SteppedLemmas.{done-told, full-told, lost-told, open-room}
use Rattle.pol_kept.proofs.kept.Kept.step.Goals as goal

pub returns-in-Some-clause-steps : goal.returns-in-Some-clause-steps
returns-in-Some-clause-steps g c =
    full-told (g.R.Render.renders c.args.render.now) c.args.self.now c.self.inside.state.rows c.args.command c.in-Ok.decision.reply c.in-Ok.out
    (c.self.invariant.0 ∙ ap state_of c.self.view_is) c.in-Ok.ensures.reply c.in-Ok.ensures.rendered c.in-Some.charged c.in-Some.charge c.in-Some.ensures

pub carry_out-requires-clause-open : goal.carry_out-requires-clause-open
carry_out-requires-clause-open g c =
    subst (λ (rows : Rows). rows.charged + c.args.command.charge ≤ 2 ^ 30) (c.self.invariant.0 ∙ ap state_of c.self.view_is)
    (open-room c.self.inside.state.rows c.args.command c.in-Ok.decision.reply c.in-Ok.ensures.reply c.in_default-full.ensures)

pub returns-in-Ok-carry_out-clause-steps : goal.returns-in-Ok-carry_out-clause-steps
returns-in-Ok-carry_out-clause-steps g c =
    done-told (g.R.Render.renders c.args.render.now) c.args.self.now c.self.inside.state.rows c.args.command c.in-Ok.decision.reply c.in-Ok.out
    (c.self.invariant.0 ∙ ap state_of c.self.view_is) c.in-Ok.ensures.reply c.in-Ok.ensures.rendered
    c.carry_out.new.self c.args.number c.in-Ok-carry_out.place c.in_default-full.ensures c.in-Ok-carry_out.ensures.entered

pub returns-in-Err-clause-lost : goal.returns-in-Err-clause-lost
returns-in-Err-clause-lost g c opening lost held =
    let d = g.D.Disk in
    let log = c.args.self.now in
    let new = c.carry_out.new.self in
    let same : c.from-changes.result.items ≡ changes_of (state_of log) c.args.command = search rules in
    rw c.stepped.ensures
    (subst (λ (all : List Lost). Holds d.seen d.may_leave d.clock d.left_since d.fault_count opening (records new.base new.history) all new.journal)
    (lost-told _ c.in-Err.why (records log.base log.history) c.from-changes.result.items (changes_of (state_of log) c.args.command) lost same)
    (c.in-Err.ensures.lost opening lost held))
