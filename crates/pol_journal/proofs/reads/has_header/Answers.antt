use Rattle.std.proofs.Common.{◌≡◌, Some, ◌∙◌, length, arith}
use Rattle.pol_journal.proofs.Moments.{same_after_both}
use Rattle.pol_journal.proofs.ReadLemmas.{when_told, told_of, judged}
use Rattle.pol_journal.proofs.reads.has_header.Goals as goal

pub returns-then-whole-clause-header : goal.returns-then-whole-clause-header
returns-then-whole-clause-header g c = when_told (g.D.Disk.seen c.args.disk.now) _ (λ bytes is.
    let size : g.D.Disk.size c.args.disk.now ≡ Some (length bytes) = told_of (g.D.Disk.seen c.args.disk.now) _ bytes is (g.met.D.Disk.tells_size c.args.disk.now) in
    let long = told_of (g.D.Disk.size c.synced.new.disk) _ (length bytes) (c.synced.ensures.untouched.size_same ∙ size) c.in_ok-length_of.ensures.length in
    let read = told_of (g.D.Disk.seen c.length_of.new.disk) _ bytes (c.length_of.ensures.untouched.seen_same ∙ c.synced.ensures.untouched.seen_same ∙ is) (c.in_ok-whole.ensures.bytes c.if-whole.true) in
    judged _ c.args.kind bytes c.read_whole.new.buf c.header.result c.eq.ensures c.header.ensures read (omega arith))

pub returns-in_err-length_of-clause-untouched : goal.returns-in_err-length_of-clause-untouched
returns-in_err-length_of-clause-untouched g c = same_after_both c.synced.ensures.untouched c.length_of.ensures.untouched

pub returns-then-branch-lt-SHORTEST-clause-untouched : goal.returns-then-branch-lt-SHORTEST-clause-untouched
returns-then-branch-lt-SHORTEST-clause-untouched g c = same_after_both c.synced.ensures.untouched c.length_of.ensures.untouched

pub returns-in_err-whole-clause-untouched : goal.returns-in_err-whole-clause-untouched
returns-in_err-whole-clause-untouched g c = same_after_both c.synced.ensures.untouched (same_after_both c.length_of.ensures.untouched c.read_whole.ensures.untouched)

pub returns-then-whole-clause-untouched : goal.returns-then-whole-clause-untouched
returns-then-whole-clause-untouched g c = same_after_both c.synced.ensures.untouched (same_after_both c.length_of.ensures.untouched c.read_whole.ensures.untouched)

pub returns-else-whole-clause-untouched : goal.returns-else-whole-clause-untouched
returns-else-whole-clause-untouched g c = same_after_both c.synced.ensures.untouched (same_after_both c.length_of.ensures.untouched c.read_whole.ensures.untouched)
