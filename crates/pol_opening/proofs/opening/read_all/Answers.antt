use Rattle.std.proofs.Common.{[], ◌∙◌}
use Rattle.std.proofs.lemmas.Result.{err_from_is_err_and, on_ok_weaker, IfErr-weaker}
use Rattle.pol_opening.proofs.ReadingLemmas.{none_read, some_first}
use Rattle.pol_opening.proofs.opening.read_all.Goals as goal

pub returns-in_err-read_one-clause-told : goal.returns-in_err-read_one-clause-told
returns-in_err-read_one-clause-told g c =
    let p = err_from_is_err_and c.from_residual.result c.from_residual.ensures.1 in
    rw (p.1, p.2) (λ file read. c.in_err-read_one.ensures.told file [] read)

pub returns-then-not-branch-clause-told : goal.returns-then-not-branch-clause-told
returns-then-not-branch-clause-told g c file read =
    let d = g.D.Disk in
    let none = c.in_ok-read_one.ensures.none (λ is. cc) in
    none_read d.seen d.may_leave d.clock d.left_since d.fault_count c.args.journal.now c.read_one.new.journal c.args.state.now.rows c.read_one.new.state.rows _ c.if-not-branch.true
    c.in_ok-read_one.ensures.read _ (c.last_gate.ensures ∙ none.1 ∙ c.requires.first) file read

pub returns-clause-opened : goal.returns-clause-opened
returns-clause-opened g c =
    let d = g.D.Disk in
    on_ok_weaker c.read_on.result (λ opens file read.
    opens file (some_first d.seen d.may_leave d.clock d.left_since d.fault_count c.args.journal.now c.read_one.new.journal c.args.state.now.rows c.read_one.new.state.rows _ c.if-not-branch.false c.in_ok-read_one.ensures.read file read))
    c.read_on.ensures.opened

pub returns-clause-told : goal.returns-clause-told
returns-clause-told g c =
    let d = g.D.Disk in
    IfErr-weaker c.read_on.result _ _ (λ why told file read.
    told file (some_first d.seen d.may_leave d.clock d.left_since d.fault_count c.args.journal.now c.read_one.new.journal c.args.state.now.rows c.read_one.new.state.rows _ c.if-not-branch.false c.in_ok-read_one.ensures.read file read))
    c.read_on.ensures.told
