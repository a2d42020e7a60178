use Rattle.std.proofs.Common.{arith, rules}
use Rattle.pol_disk.proofs.FileLemmas.{has_read_more, looks_twice}
use Rattle.pol_disk.proofs.over.read_all.Goals as goal

pub loop-count-preserved : goal.loop-count-preserved
loop-count-preserved g c =
    let f = g.F.FileCalls in
    let met = g.met.F.FileCalls in
    let before = c.loop-count.invariant in (
      looks_twice f.seen f.size f.may_leave f.clock f.left_since c.args.file.now _ _ (met.counts_now c.args.file.now) before.0 c.read_behind.ensures.looks,
      has_read_more _ _ _ _ c.args.at c.loop-count.count _ _ c.args.buf.now c.loop-count.buf _ before.0.seen_same before.0.size_same
          (met.tells_size c.args.file.now) before.1 (omega (arith, before.2, c.in_ok-more.ensures.bound)) c.in_ok-more.ensures.number c.in_ok-more.ensures.bytes,
      search rules,
    )
