use Rattle.std.proofs.Common.{ℕ, refl, subst, arith}
use Rattle.pol_journal.specs.Format.{StandsFor}
use Rattle.pol_journal.specs.Journal.{Stands}
use Rattle.pol_journal.proofs.JournalLemmas.{since_now}
use Rattle.pol_journal.proofs.journal.Journal.fresh.Goals as goal

pub returns-in-Ok-clause-at_rest : goal.returns-in-Ok-clause-at_rest
returns-in-Ok-clause-at_rest g c bodies area none =
    let d = g.D.Disk in record {
      ready = refl;
      stands = subst (λ (n : ℕ). Stands c.args.kind bodies n (d.seen c.create.new.disk) (d.may_leave c.create.new.disk)) (omega arith) (c.in-Ok.ensures.made bodies area none);
    }

pub returns-in-Ok-clause-since : goal.returns-in-Ok-clause-since
returns-in-Ok-clause-since g c bodies area none =
    let d = g.D.Disk in
    since_now d.clock d.left_since d.fault_count d.may_leave (StandsFor c.args.kind bodies) _ (g.met.D.Disk.only_now c.create.new.disk) c.of.ensures
    (c.in-Ok.ensures.made bodies area none).images
