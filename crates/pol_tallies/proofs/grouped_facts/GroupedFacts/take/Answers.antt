use Rattle.std.proofs.Common.{None, Some}
use Rattle.pol_tallies.proofs.NumberedFactsLemmas.{facts-lack, facts-take, holds-found, numbered-take}
use Rattle.pol_tallies.proofs.grouped_facts.GroupedFacts.take.Goals as goal

pub returns-in_default-clause-taken : goal.returns-in_default-clause-taken
returns-in_default-clause-taken g c =
    rw (← c.self.view_is) (holds-found (λ row. row.number) (λ row. row.fact) g.T.Fact.coded c.args.fact.now c.self.inside.table.rows None c.in_default.ensures)

pub returns-in_default-clause-facts : goal.returns-in_default-clause-facts
returns-in_default-clause-facts g c =
    rw (← c.self.view_is) (facts-lack (λ row. row.number) (λ row. row.fact) g.T.Fact.coded c.args.fact.now c.self.inside.table.rows c.in_default.ensures)

pub invariant_of-self : goal.invariant_of-self
invariant_of-self g c =
    rw c.take.ensures.rows (numbered-take (λ row. row.number) (λ row. row.fact) g.T.Fact.coded c.self.inside.next c.in-Some.row.now.number c.self.inside.table.rows c.self.invariant)

pub returns-clause-taken : goal.returns-clause-taken
returns-clause-taken g c =
    rw (← c.self.view_is) (holds-found (λ row. row.number) (λ row. row.fact) g.T.Fact.coded c.args.fact.now c.self.inside.table.rows (Some c.in-Some.row.now) c.in-Some.ensures)

pub returns-clause-facts : goal.returns-clause-facts
returns-clause-facts g c =
    rw (← c.self.view_is) (rw c.take.ensures.rows (facts-take (λ row. row.number) (λ row. row.fact) g.T.Fact.coded c.args.fact.now c.in-Some.row.now c.self.inside.next c.self.inside.table.rows c.self.invariant c.in-Some.ensures))
