use Rattle.pol_tables.proofs.IndexLemmas.{noted-alike}
use Rattle.pol_tables.proofs.index.Index.reserve.Goals as goal

pub returns-in_err-reserve-2-clause-noted : goal.returns-in_err-reserve-2-clause-noted
returns-in_err-reserve-2-clause-noted c other =
    rw (← c.self.view_is) (noted-alike c.self.inside.firsts.entries c.reserve.new.self.entries c.self.invariant.0 c.self.invariant.1 c.reserve.ensures.unique c.reserve.ensures.entries.2 c.self.inside.others.items c.reserve-2.new.self.items c.reserve-2.ensures.items other)

pub returns-clause-noted : goal.returns-clause-noted
returns-clause-noted c other =
    rw (← c.self.view_is) (noted-alike c.self.inside.firsts.entries c.reserve.new.self.entries c.self.invariant.0 c.self.invariant.1 c.reserve.ensures.unique c.reserve.ensures.entries.2 c.self.inside.others.items c.reserve-2.new.self.items c.reserve-2.ensures.items other)
