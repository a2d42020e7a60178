use Rattle.std.proofs.Common.{◌≡◌, ◌∙◌, refl, subst}
use Rattle.pol_disk.specs.Disk.{IsDurable}
use Rattle.pol_journal.proofs.JournalLemmas.{since_now}
use Rattle.pol_journal.proofs.ReadLemmas.{header_read, told_of}
use Rattle.pol_journal.proofs.journal.Journal.open.Goals as goal

pub returns-in-Ok-true-clause-opened : goal.returns-in-Ok-true-clause-opened
returns-in-Ok-true-clause-opened g c file is =
    let d = g.D.Disk in
    let same = c.has_header.ensures.untouched.seen_same ∙ is in record {
      reading = refl;
      told = same;
      durable = c.in-Ok-true.ensures.durable;
      since = since_now d.clock d.left_since d.fault_count d.may_leave (λ image. image ≡ file) _ (g.met.D.Disk.only_now c.has_header.new.disk) c.of.ensures
          (subst (λ o. IsDurable o (d.may_leave c.has_header.new.disk)) same c.in-Ok-true.ensures.durable);
      read = header_read c.args.kind file (told_of _ _ file is (rw c.in-Ok-true.field-0-test at c.in-Ok-true.ensures.header));
    }
