use Rattle.std.proofs.Common.{ap, ◌∙◌}
use Rattle.pol_tables.specs.Index.{same_found}
use Rattle.pol_tables.proofs.IndexLemmas.{same_entry-is}
use Rattle.pol_tables.proofs.index.Index.has_first.Goals as goal

pub returns-in-Some-clause-first : goal.returns-in-Some-clause-first
returns-in-Some-clause-first c =
    c.eq.ensures ∙ same_entry-is c.in-Some.first.now c.args.noted.now ∙ ap (same_found c.args.noted.now) c.in-Some.ensures.value
