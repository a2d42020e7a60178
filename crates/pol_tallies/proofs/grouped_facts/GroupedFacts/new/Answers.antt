use Rattle.pol_tallies.proofs.NumberedFactsLemmas.{numbered-nil}
use Rattle.pol_tallies.proofs.grouped_facts.GroupedFacts.new.Goals as goal

pub invariant_of-result : goal.invariant_of-result
invariant_of-result g c = rw c.new.ensures (numbered-nil (λ row. row.number) (λ row. row.fact) g.T.Fact.coded 0)
