use Rattle.std.proofs.Common.{inl}
use Rattle.pol_kept.proofs.OpenedLemmas.{reopens}
use Rattle.pol_kept.proofs.kept.Kept.open.Goals as goal

pub of-requires-clause-past_reading : goal.of-requires-clause-past_reading
of-requires-clause-past_reading g c = inl c.in_ok-journal.ensures.ready.0

pub returns-clause-sound : goal.returns-clause-sound
returns-clause-sound g c = rw c.of.ensures.log c.in_ok-journal.ensures.sound

pub returns-clause-untouched : goal.returns-clause-untouched
returns-clause-untouched g c = rw c.of.ensures.log c.in_ok-journal.ensures.untouched

pub returns-clause-opened : goal.returns-clause-opened
returns-clause-opened g c file told =
    let d = g.D.Disk in
    let opened = c.in_ok-journal.field-0 in
    reopens d.seen d.may_leave d.clock d.left_since d.fault_count file c.of.result opened.state.rows opened.journal
    c.of.ensures.log (c.in_ok-journal.ensures.opened file told) c.of.ensures.images
