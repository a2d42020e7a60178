use Rattle.std.proofs.Common.{◌≡◌, sym, subst, ◌∙◌}
use Rattle.pol_soundness.specs.Base.{rows_after}
use Rattle.pol_state.specs.Sound.{IsSound}
use Rattle.pol_opening.proofs.AfterLemmas.{applied_at}
use Rattle.pol_opening.proofs.making.apply.Goals as goal

pub apply-requires-clause-sound : goal.apply-requires-clause-sound
apply-requires-clause-sound c =
    let kept = c.reserve.new.self.rows in
    let time : c.time_after-time.result ≡ (rows_after c.args.changes.items kept).time = rw (c.as_slice-2.ensures.value) at (c.time_after-time.ensures kept (sym c.time.ensures)) in
    subst IsSound (sym (applied_at c.args.changes.items c.args.state.now.rows kept c.time_after-time.result c.reserve.ensures.rows time)) c.requires

pub returns-clause-made : goal.returns-clause-made
returns-clause-made c =
    let kept = c.reserve.new.self.rows in
    let time : c.time_after-time.result ≡ (rows_after c.args.changes.items kept).time = rw (c.as_slice-2.ensures.value) at (c.time_after-time.ensures kept (sym c.time.ensures)) in
    c.apply.ensures.rows ∙ applied_at c.args.changes.items c.args.state.now.rows kept c.time_after-time.result c.reserve.ensures.rows time
