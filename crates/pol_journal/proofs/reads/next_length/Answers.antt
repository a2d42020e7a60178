use Rattle.std.proofs.Common.{◌≡◌, Some, ◌∙◌, length, arith}
use Rattle.pol_journal.proofs.Moments.{same_after_both}
use Rattle.pol_journal.proofs.ReadLemmas.{when_told, told_of, few_left, too_long, has_record}
use Rattle.pol_journal.proofs.reads.next_length.Goals as goal

pub returns-then-left-lt-RECORD-clause-broken : goal.returns-then-left-lt-RECORD-clause-broken
returns-then-left-lt-RECORD-clause-broken g c = when_told (g.D.Disk.seen c.args.disk.now) _ (λ bytes is.
    let size : g.D.Disk.size c.args.disk.now ≡ Some (length bytes) = told_of (g.D.Disk.seen c.args.disk.now) _ bytes is (g.met.D.Disk.tells_size c.args.disk.now) in
    let long = told_of (g.D.Disk.size c.args.disk.now) _ (length bytes) size c.in_ok-length_of.ensures.length in
    let read = told_of (g.D.Disk.seen c.length_of.new.disk) _ bytes (c.length_of.ensures.untouched.seen_same ∙ is) (c.in_ok-read_whole.ensures.bytes c.if-not-branch.false) in
    few_left bytes c.args.gate c.read_whole.new.buf read (omega arith) c.if-byte-ne-OPEN.false (omega arith))

pub returns-then-length-left-clause-broken : goal.returns-then-length-left-clause-broken
returns-then-length-left-clause-broken g c = when_told (g.D.Disk.seen c.args.disk.now) _ (λ bytes is.
    let size : g.D.Disk.size c.args.disk.now ≡ Some (length bytes) = told_of (g.D.Disk.seen c.args.disk.now) _ bytes is (g.met.D.Disk.tells_size c.args.disk.now) in
    let long = told_of (g.D.Disk.size c.args.disk.now) _ (length bytes) size c.in_ok-length_of.ensures.length in
    let read = told_of (g.D.Disk.seen c.length_of.new.disk) _ bytes (c.length_of.ensures.untouched.seen_same ∙ is) (c.in_ok-read_whole.ensures.bytes c.if-not-branch.false) in
    let read_frame = told_of (g.D.Disk.seen c.read_whole.new.disk) _ bytes (c.read_whole.ensures.untouched.seen_same ∙ c.length_of.ensures.untouched.seen_same ∙ is) (c.in_ok-read_whole-2.ensures.bytes c.if-not-branch-2.false) in
    too_long bytes c.args.gate c.read_whole.new.buf read (omega arith) c.if-byte-ne-OPEN.false c.read_whole-2.new.buf read_frame (omega arith) (omega (arith, c.number_of-length.ensures.number)))

pub returns-clause-length : goal.returns-clause-length
returns-clause-length g c = when_told (g.D.Disk.seen c.args.disk.now) _ (λ bytes is.
    let size : g.D.Disk.size c.args.disk.now ≡ Some (length bytes) = told_of (g.D.Disk.seen c.args.disk.now) _ bytes is (g.met.D.Disk.tells_size c.args.disk.now) in
    let long = told_of (g.D.Disk.size c.args.disk.now) _ (length bytes) size c.in_ok-length_of.ensures.length in
    let read = told_of (g.D.Disk.seen c.length_of.new.disk) _ bytes (c.length_of.ensures.untouched.seen_same ∙ is) (c.in_ok-read_whole.ensures.bytes c.if-not-branch.false) in
    let read_frame = told_of (g.D.Disk.seen c.read_whole.new.disk) _ bytes (c.read_whole.ensures.untouched.seen_same ∙ c.length_of.ensures.untouched.seen_same ∙ is) (c.in_ok-read_whole-2.ensures.bytes c.if-not-branch-2.false) in
    has_record bytes c.args.gate c.read_whole.new.buf read (omega arith) c.if-byte-ne-OPEN.false c.read_whole-2.new.buf read_frame (omega arith) _ c.number_of-length.ensures.bytes (omega arith))

pub returns-in_err-read_whole-clause-untouched : goal.returns-in_err-read_whole-clause-untouched
returns-in_err-read_whole-clause-untouched g c = same_after_both c.length_of.ensures.untouched c.read_whole.ensures.untouched

pub returns-then-not-branch-clause-untouched : goal.returns-then-not-branch-clause-untouched
returns-then-not-branch-clause-untouched g c = same_after_both c.length_of.ensures.untouched c.read_whole.ensures.untouched

pub returns-then-byte-ne-OPEN-clause-untouched : goal.returns-then-byte-ne-OPEN-clause-untouched
returns-then-byte-ne-OPEN-clause-untouched g c = same_after_both c.length_of.ensures.untouched c.read_whole.ensures.untouched

pub returns-then-left-lt-RECORD-clause-untouched : goal.returns-then-left-lt-RECORD-clause-untouched
returns-then-left-lt-RECORD-clause-untouched g c = same_after_both c.length_of.ensures.untouched c.read_whole.ensures.untouched

pub returns-in_err-read_whole-2-clause-untouched : goal.returns-in_err-read_whole-2-clause-untouched
returns-in_err-read_whole-2-clause-untouched g c = same_after_both c.length_of.ensures.untouched (same_after_both c.read_whole.ensures.untouched c.read_whole-2.ensures.untouched)

pub returns-then-not-branch-2-clause-untouched : goal.returns-then-not-branch-2-clause-untouched
returns-then-not-branch-2-clause-untouched g c = same_after_both c.length_of.ensures.untouched (same_after_both c.read_whole.ensures.untouched c.read_whole-2.ensures.untouched)

pub returns-then-length-left-clause-untouched : goal.returns-then-length-left-clause-untouched
returns-then-length-left-clause-untouched g c = same_after_both c.length_of.ensures.untouched (same_after_both c.read_whole.ensures.untouched c.read_whole-2.ensures.untouched)

pub returns-clause-untouched : goal.returns-clause-untouched
returns-clause-untouched g c = same_after_both c.length_of.ensures.untouched (same_after_both c.read_whole.ensures.untouched c.read_whole-2.ensures.untouched)
