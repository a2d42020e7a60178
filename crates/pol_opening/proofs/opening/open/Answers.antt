use Rattle.std.proofs.Common.{ap}
use Rattle.pol_journal.specs.Journal.{JournalState}
use Rattle.pol_journal.proofs.Moments.{same_after_both}
use Rattle.pol_opening.proofs.ReadingLemmas.{opening_refused, read_first}
use Rattle.pol_opening.proofs.opening.open.Goals as goal

pub returns-in-Ok-clause-opened : goal.returns-in-Ok-clause-opened
returns-in-Ok-clause-opened g c file is =
    let d = g.D.Disk in
    let kind = ap (λ (j : JournalState g.row.D.Denot). j.kind) c.in_ok-journal.ensures.made in
    c.in-Ok.ensures.opened file (read_first d.seen d.may_leave d.clock d.left_since d.fault_count file c.in_ok-journal.journal kind (c.in_ok-journal.ensures.opened file is))

pub returns-in-Err-clause-refused : goal.returns-in-Err-clause-refused
returns-in-Err-clause-refused g c =
    let d = g.D.Disk in
    let kind = ap (λ (j : JournalState g.row.D.Denot). j.kind) c.in_ok-journal.ensures.made in
    rw c.close.ensures (opening_refused (d.seen c.args.disk) (d.fault_count c.args.disk) (d.fault_count c.in_ok-journal.journal.disk) (d.fault_count c.read_state.new.journal.disk) c.in-Err.refused
    c.in_ok-journal.ensures.kept c.in-Err.ensures.refused
    (λ file is. c.in-Err.ensures.told file (read_first d.seen d.may_leave d.clock d.left_since d.fault_count file c.in_ok-journal.journal kind (c.in_ok-journal.ensures.opened file is))))

pub returns-in-Ok-clause-untouched : goal.returns-in-Ok-clause-untouched
returns-in-Ok-clause-untouched g c = same_after_both c.in_ok-journal.ensures.untouched c.read_state.ensures.reads.untouched

pub returns-in-Err-clause-untouched : goal.returns-in-Err-clause-untouched
returns-in-Err-clause-untouched g c = rw c.close.ensures (same_after_both c.in_ok-journal.ensures.untouched c.read_state.ensures.reads.untouched)
