use Rattle.std.proofs.Common.{◌≡◌, ℕ, sym, ◌∙◌, ap, subst}
use Rattle.std.proofs.lemmas.Result.{err_from_is_err_and}
use Rattle.pol_journal.specs.Journal.{JournalState}
use Rattle.pol_object_store.specs.Reopened.{IsRefusedAt}
use Rattle.pol_object_store.proofs.ReadingLemmas.{next_refused, reads_more, reads_unfit, reads_whole}
use Rattle.pol_object_store.proofs.opening.read_state.Goals as goal

pub returns-in_err-body-clause-refused : goal.returns-in_err-body-clause-refused
returns-in_err-body-clause-refused g c =
    let d = g.D.Disk in
    let p = err_from_is_err_and c.from_residual.result c.from_residual.ensures.1 in
    rw (p.1, p.2)
    (next_refused d.seen d.may_leave d.clock d.left_since d.fault_count d.size c.args.journal.now c.records.journal c.next_record.new.self c.records.objects c.records.invariant _ c.in_err-body.field-0.0
    c.in_err-body.ensures.refused c.in_err-body.ensures.bad)

pub returns-in-Err-NoForm-clause-refused : goal.returns-in-Err-NoForm-clause-refused
returns-in-Err-NoForm-clause-refused g c file was =
    let d = g.D.Disk in
    let after = rw c.in-Some.is at (c.in_ok-body.ensures.after c.records.invariant.reading) in
    let at_gate : c.last_gate-at.result ≡ c.records.journal.gate = c.last_gate-at.ensures ∙ ap (λ (j : JournalState g.row.D.Denot). j.last) after in
    subst (λ (n : ℕ). IsRefusedAt n file) (sym at_gate)
    (reads_unfit d.seen d.may_leave d.clock d.left_since d.fault_count d.size c.args.journal.now c.records.journal c.next_record.new.self c.records.objects c.records.invariant c.in-Some.body.items after
    (λ file bodies read. rw c.in-Some.is at (c.in_ok-body.ensures.next file bodies read))
    (rw c.as_slice.ensures.value at (c.in-Err-NoForm.ensures.refused c.in-Err-NoForm.field-0-is)) file was)

pub records-preserved : goal.records-preserved
records-preserved g c =
    let d = g.D.Disk in
    reads_more d.seen d.may_leave d.clock d.left_since d.fault_count d.size c.args.journal.now c.records.journal c.next_record.new.self c.records.objects c.records.invariant c.in-Some.body.items
    (rw c.in-Some.is at (c.in_ok-body.ensures.after c.records.invariant.reading))
    (λ file bodies read. rw c.in-Some.is at (c.in_ok-body.ensures.next file bodies read)) c.redo.new.objects
    (rw c.as_slice.ensures.value at c.in-Ok.ensures.made) c.next_record.ensures.untouched c.next_record.ensures.kept

pub returns-in-Ok-state_of-clause-read : goal.returns-in-Ok-state_of-clause-read
returns-in-Ok-state_of-clause-read g c file was =
    let d = g.D.Disk in
    rw c.in-Ok-state_of.ensures.objects
    (reads_whole d.seen d.may_leave d.clock d.left_since d.fault_count d.size c.args.journal.now c.records.journal c.next_record.new.self c.records.objects c.records.invariant
    (rw c.in_default.is at (c.in_ok-body.ensures.after c.records.invariant.reading))
    (λ file bodies read. rw c.in_default.is at (c.in_ok-body.ensures.next file bodies read)) file was)
