use Rattle.std.proofs.Common.{◌++◌, ◌∷◌, [], ◌∙◌}
use Rattle.std.proofs.lemmas.Result.{err_from_is_err_and}
use Rattle.pol_opening.proofs.ReadingLemmas.{all_read, reads_both, some_more}
use Rattle.pol_opening.proofs.opening.read_on.Goals as goal

pub returns-in_err-read_one-clause-told : goal.returns-in_err-read_one-clause-told
returns-in_err-read_one-clause-told g c =
    let p = err_from_is_err_and c.from_residual.result c.from_residual.ensures.1 in
    rw (p.1, p.2) (λ file some.
    let now = c.loop.invariant.read file some in
    c.in_err-read_one.ensures.told file (now.before ++ now.last ∷ []) now.so_far)

pub loop-preserved : goal.loop-preserved
loop-preserved g c =
    let d = g.D.Disk in
    let more = c.in_ok-read_one.ensures.more c.if-branch.true in record {
      reading = more.0;
      sound = more.1;
      charged = c.in_ok-read_one.ensures.charged ∙ c.loop.invariant.charged;
      read = λ file some.
          some_more d.seen d.may_leave d.clock d.left_since d.fault_count c.loop.journal c.read_one.new.journal c.loop.state.rows c.read_one.new.state.rows _ c.if-branch.true c.in_ok-read_one.ensures.read file (c.loop.invariant.read file some);
      reads = reads_both d.clock d.left_since d.may_leave d.seen d.size d.fault_count c.args.journal.now c.loop.journal c.read_one.new.journal c.loop.invariant.reads c.read_one.ensures.reads;
    }

pub returns-clause-opened : goal.returns-clause-opened
returns-clause-opened g c file some =
    let d = g.D.Disk in
    all_read d.seen d.may_leave d.clock d.left_since d.fault_count c.loop.journal c.read_one.new.journal c.loop.state.rows c.read_one.new.state.rows _ c.if-branch.false c.in_ok-read_one.ensures.read file (c.loop.invariant.read file some)
