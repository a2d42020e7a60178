use Rattle.std.proofs.Common.{◌∙◌}
use Rattle.pol_tables.proofs.SameLemmas.{same-exact}
use Rattle.pol_tallies.proofs.numbered_fact.SoughtFactNameOfNumberedFact.names.Goals as goal

pub returns : goal.returns
returns g c =
    c.eq.ensures ∙ (λ i. same-exact g.T.Fact.coded _ g.met.T.Exact.compares_exactly g.met.T.Eq.laws.refl i c.args.self.now.fact.now c.args.row.now.fact)
