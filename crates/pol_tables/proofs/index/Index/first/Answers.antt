use Rattle.std.proofs.Common.{◌∙◌}
use Rattle.pol_tables.proofs.FirstsLemmas.{lookup-firsts, differ-firsts}
use Rattle.pol_tables.proofs.index.Index.first.Goals as goal

pub returns-clause-value : goal.returns-clause-value
returns-clause-value c =
    rw (← c.self.view_is) (c.get.ensures.value ∙ lookup-firsts c.self.inside.firsts.entries c.self.invariant.0 c.self.invariant.1 c.args.number)

pub returns-clause-differ : goal.returns-clause-differ
returns-clause-differ c =
    rw (← c.self.view_is) (differ-firsts c.self.inside.firsts.entries c.self.invariant.0 c.self.invariant.1)
