use Rattle.std.proofs.Common.{[], ◌∷◌, ◌++◌, ℕ, refl, subst, arith}
use Rattle.pol_journal.specs.Journal.{Stands}
use Rattle.pol_journal.proofs.journal.Journal.append.Goals as goal

pub returns-in-Err-clause-moments : goal.returns-in-Err-clause-moments
returns-in-Err-clause-moments g c bodies was =
    let rest = rw (← c.self.view_is) at was in
    rw (← c.self.view_is) (c.write_record.ensures.moments c.self.inside.kind bodies rest.stands)

pub returns-in-Err-clause-unknown : goal.returns-in-Err-clause-unknown
returns-in-Err-clause-unknown g c is bodies was =
    let rest = rw (← c.self.view_is) at was in record {
      reached = c.in-Err.reached;
      failed = refl;
      hangs = c.in-Err.ensures.failed c.self.inside.kind bodies rest.stands;
    }

pub returns-clause-moments : goal.returns-clause-moments
returns-clause-moments g c bodies was =
    let rest = rw (← c.self.view_is) at was in
    rw (← c.self.view_is) (c.write_record.ensures.moments c.self.inside.kind bodies rest.stands)

pub returns-clause-bytes : goal.returns-clause-bytes
returns-clause-bytes g c = rw (← c.self.view_is) c.in_default.ensures.bytes

pub returns-clause-size : goal.returns-clause-size
returns-clause-size g c = rw (← c.self.view_is) c.in_default.ensures.reach

pub returns-clause-appended : goal.returns-clause-appended
returns-clause-appended g c bodies was =
    let d = g.D.Disk in
    let rest = rw (← c.self.view_is) at was in record {
      ready = rest.ready;
      stands = subst (λ (n : ℕ). Stands c.self.inside.kind (bodies ++ c.args.body.now ∷ []) n (d.seen c.write_record.new.disk) (d.may_leave c.write_record.new.disk))
          (omega arith) (c.in_default.ensures.appended c.self.inside.kind bodies rest.stands);
    }
