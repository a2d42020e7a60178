use Rattle.std.proofs.Common.{◌≡◌, ap, subst, sym}
use Rattle.pol_state.specs.Sound.{IsSound}
use Rattle.pol_kept.proofs.OpenedLemmas.{first-images, first-invariant}
use Rattle.pol_kept.proofs.kept.Kept.of.Goals as goal

pub invariant_of-result : goal.invariant_of-result
invariant_of-result g c =
    let state_is : c.of-base.result.value.rows ≡ c.args.state.rows = ap (λ s. s.rows) c.of-base.ensures in
    rw c.of.ensures.journal
    (first-invariant c.of-base.result.value.rows c.args.state.rows c.new.result c.new-2.result.items c.args.journal.opening.faults
    (g.D.Disk.fault_count c.args.journal.disk) c.args.journal.gate c.new.ensures c.new-2.ensures.items (sym state_is) (subst IsSound (sym state_is) c.requires.sound) c.requires.counted)

pub returns-clause-images : goal.returns-clause-images
returns-clause-images g c opening rest since =
    let d = g.D.Disk in
    first-images d.seen d.may_leave d.clock d.left_since d.fault_count opening c.args.state.rows c.args.journal
    (rw c.of.ensures.journal at (c.of.ensures.holds opening rest since))
