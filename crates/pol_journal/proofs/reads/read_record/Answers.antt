use Rattle.std.proofs.Common.{◌≡◌, Some, ◌∙◌, ℕ, ◌+◌, length, take, drop, ap, arith}
use Rattle.std.proofs.lemmas.List.{take_at}
use Rattle.pol_journal.specs.Format.{IsRecordOf}
use Rattle.pol_journal.proofs.Moments.{same_after_both}
use Rattle.pol_journal.proofs.ReadLemmas.{when_told, told_of, cannot_fail, record_fits, record_read}
use Rattle.pol_journal.proofs.reads.read_record.Goals as goal

pub returns-then-not-branch-clause-broken : goal.returns-then-not-branch-clause-broken
returns-then-not-branch-clause-broken g c = when_told (g.D.Disk.seen c.args.disk.now) _ (λ bytes is.
    let size : g.D.Disk.size c.args.disk.now ≡ Some (length bytes) = told_of (g.D.Disk.seen c.args.disk.now) _ bytes is (g.met.D.Disk.tells_size c.args.disk.now) in
    let stands : IsRecordOf c.in-Some.length (drop c.args.gate bytes) = rw c.in-Some.is at (told_of (g.D.Disk.seen c.args.disk.now) _ bytes is c.in_ok-length.ensures.length) in
    let whole = told_of (g.D.Disk.size c.next_length.new.disk) _ (length bytes) (c.next_length.ensures.untouched.size_same ∙ size) c.in_ok-read_whole.ensures.whole in
    absurd (cannot_fail _ _ c.if-not-branch.true whole (omega (arith, record_fits bytes c.args.gate c.in-Some.length stands, c.in_ok-body.ensures.len, c.deref_mut.ensures.len))))

pub returns-clause-record : goal.returns-clause-record
returns-clause-record g c = when_told (g.D.Disk.seen c.args.disk.now) _ (λ bytes is.
    let stands : IsRecordOf c.in-Some.length (drop c.args.gate bytes) = rw c.in-Some.is at (told_of (g.D.Disk.seen c.args.disk.now) _ bytes is c.in_ok-length.ensures.length) in
    let read = told_of (g.D.Disk.seen c.next_length.new.disk) _ bytes (c.next_length.ensures.untouched.seen_same ∙ is) (c.in_ok-read_whole.ensures.bytes c.if-not-branch.false) in
    record_read bytes c.args.gate c.in-Some.length _ c.read_whole.new.buf stands
    (take_at c.read_whole.new.buf _ _ (omega (arith, c.read_whole.auto.buf, c.deref_mut.ensures.len, c.in_ok-body.ensures.len)))
    (read ∙ ap (λ (n : ℕ). take n (drop (c.args.gate + 9) bytes)) (omega (arith, c.deref_mut.ensures.len, c.in_ok-body.ensures.len))))

pub returns-in_err-read_whole-clause-untouched : goal.returns-in_err-read_whole-clause-untouched
returns-in_err-read_whole-clause-untouched g c = same_after_both c.next_length.ensures.untouched c.read_whole.ensures.untouched

pub returns-then-not-branch-clause-untouched : goal.returns-then-not-branch-clause-untouched
returns-then-not-branch-clause-untouched g c = same_after_both c.next_length.ensures.untouched c.read_whole.ensures.untouched

pub returns-clause-untouched : goal.returns-clause-untouched
returns-clause-untouched g c = same_after_both c.next_length.ensures.untouched c.read_whole.ensures.untouched
