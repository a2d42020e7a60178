use Rattle.std.proofs.Common.{refl, sym, ◌∙◌}
use Rattle.pol_tables.proofs.FactsLemmas.{facts_with-known}
use Rattle.pol_tallies.proofs.NumberedFactsLemmas.{facts-put, numbered-put}
use Rattle.pol_tallies.proofs.grouped_facts.GroupedFacts.put.Goals as goal

pub returns-then-contains-clause-facts : goal.returns-then-contains-clause-facts
returns-then-contains-clause-facts g c =
    sym (facts_with-known g.T.Fact.coded _ _ (sym c.contains.ensures ∙ c.if-contains.true))

pub invariant_of-self : goal.invariant_of-self
invariant_of-self g c =
    let new = rw (← c.self.view_is) at (sym c.contains.ensures ∙ c.if-contains.false) in
    rw c.put.ensures.rows (numbered-put (λ row. row.number) (λ row. row.fact) g.T.Fact.coded c.self.inside.next c.self.inside.table.rows c.self.invariant _ refl new)

pub returns-clause-facts : goal.returns-clause-facts
returns-clause-facts g c =
    let new = rw (← c.self.view_is) at (sym c.contains.ensures ∙ c.if-contains.false) in
    rw (← c.self.view_is) (rw c.put.ensures.rows (facts-put (λ row. row.number) (λ row. row.fact) g.T.Fact.coded c.self.inside.next c.self.inside.table.rows c.self.invariant _ refl new))
