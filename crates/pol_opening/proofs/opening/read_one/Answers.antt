use Rattle.std.proofs.lemmas.Result.{err_from_is_err_and}
use Rattle.pol_opening.proofs.ReadingLemmas.{at_the_end, is_made, not_given, not_made}
use Rattle.pol_opening.proofs.opening.read_one.Goals as goal

pub returns-in_err-body-clause-told : goal.returns-in_err-body-clause-told
returns-in_err-body-clause-told g c =
    let d = g.D.Disk in
    let p = err_from_is_err_and c.from_residual.result c.from_residual.ensures.1 in
    rw (p.1, p.2) (λ file bodies so_far.
    not_given d.seen d.may_leave d.clock d.left_since d.fault_count file bodies _ _ so_far _ _ _
    (c.in_err-body.ensures.bad file bodies so_far.read) c.in_err-body.ensures.refused)

pub returns-in_default-clause-read : goal.returns-in_default-clause-read
returns-in_default-clause-read g c file bodies so_far =
    let d = g.D.Disk in
    let is = rw c.in_default.is at (c.in_ok-body.ensures.after c.requires.reading) in
    let end = rw c.in_default.is at (c.in_ok-body.ensures.next file bodies so_far.read) in
    at_the_end d.seen d.may_leave d.clock d.left_since d.fault_count file bodies _ _ so_far c.next_record.new.self is end

pub returns-in_err-make-clause-told : goal.returns-in_err-make-clause-told
returns-in_err-make-clause-told g c =
    let d = g.D.Disk in
    let p = err_from_is_err_and c.from_residual-in_err-make.result c.from_residual-in_err-make.ensures.1 in
    let is = rw c.in-Some.is at (c.in_ok-body.ensures.after c.requires.reading) in
    let refused = rw c.as_slice.ensures.value at c.in_err-make.ensures.refused in
    rw (p.1, p.2) (λ file bodies so_far.
    let read = rw c.in-Some.is at (c.in_ok-body.ensures.next file bodies so_far.read) in
    not_made d.seen d.may_leave d.clock d.left_since d.fault_count file bodies _ _ so_far c.next_record.new.self c.in-Some.body.items is read _ c.last_gate.ensures _ refused)

pub returns-clause-read : goal.returns-clause-read
returns-clause-read g c file bodies so_far =
    let d = g.D.Disk in
    let is = rw c.in-Some.is at (c.in_ok-body.ensures.after c.requires.reading) in
    let read = rw c.in-Some.is at (c.in_ok-body.ensures.next file bodies so_far.read) in
    let made = rw c.as_slice.ensures.value at c.in_ok-make.ensures.made in (
      c.in-Some.body.items,
      is_made d.seen d.may_leave d.clock d.left_since d.fault_count file bodies _ _ so_far c.next_record.new.self c.in-Some.body.items is read _ made,
    )
