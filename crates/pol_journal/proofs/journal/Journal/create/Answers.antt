use Rattle.std.proofs.Common.{◌≡◌, ◌++◌, subst}
use Rattle.pol_disk.specs.Disk.{Told}
use Rattle.pol_journal.specs.Format.{IsNoneOrStandsFor, header_of}
use Rattle.pol_journal.proofs.CreateLemmas.{blank_after, looked}
use Rattle.pol_journal.proofs.Moments.{and_then}
use Rattle.pol_journal.proofs.ReadLemmas.{when_told}
use Rattle.pol_journal.proofs.journal.Journal.create.Goals as goal

pub returns-in_err-write_journal-clause-moments : goal.returns-in_err-write_journal-clause-moments
returns-in_err-write_journal-clause-moments g c bodies area none =
    let d = g.D.Disk in
    and_then d.clock d.left_since d.may_leave (IsNoneOrStandsFor c.args.kind bodies) _ c.length_of.new.disk _
    (looked c.args.kind bodies none c.length_of.ensures.untouched)
    (c.write_journal.ensures.moments bodies area (blank_after none c.length_of.ensures.untouched))

pub returns-clause-moments : goal.returns-clause-moments
returns-clause-moments g c bodies area none =
    let d = g.D.Disk in
    and_then d.clock d.left_since d.may_leave (IsNoneOrStandsFor c.args.kind bodies) _ c.length_of.new.disk _
    (looked c.args.kind bodies none c.length_of.ensures.untouched)
    (c.write_journal.ensures.moments bodies area (blank_after none c.length_of.ensures.untouched))

pub returns-in_err-length_of-clause-moments : goal.returns-in_err-length_of-clause-moments
returns-in_err-length_of-clause-moments g c bodies area none = looked c.args.kind bodies none c.length_of.ensures.untouched

pub returns-in_err-length_of-clause-untouched : goal.returns-in_err-length_of-clause-untouched
returns-in_err-length_of-clause-untouched g c = when_told (g.D.Disk.size c.args.disk.now) _ (λ size is some. c.length_of.ensures.untouched)

pub returns-then-branch-ne0-clause-moments : goal.returns-then-branch-ne0-clause-moments
returns-then-branch-ne0-clause-moments g c bodies area none = looked c.args.kind bodies none c.length_of.ensures.untouched

pub returns-then-branch-ne0-clause-untouched : goal.returns-then-branch-ne0-clause-untouched
returns-then-branch-ne0-clause-untouched g c = when_told (g.D.Disk.size c.args.disk.now) _ (λ size is some. c.length_of.ensures.untouched)

pub returns-clause-bytes : goal.returns-clause-bytes
returns-clause-bytes g c =
    subst (λ seen. Told (λ old new. new ≡ header_of c.args.kind ++ c.args.first.now) seen (g.D.Disk.seen c.write_journal.new.disk)) c.length_of.ensures.untouched.seen_same
    c.in_ok-write_journal.ensures.bytes
