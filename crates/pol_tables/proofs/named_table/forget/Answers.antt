use Rattle.std.proofs.Common.{not, ap, ◌&&◌, ◌∙◌}
use Rattle.pol_tables.specs.Index.{is_noted}
use Rattle.pol_tables.proofs.IndexLemmas.{same_entry-apart}
use Rattle.pol_tables.proofs.named_table.forget.Goals as goal

pub returns-in-Some-clause-others : goal.returns-in-Some-clause-others
returns-in-Some-clause-others g c noted differs =
    c.forget.ensures.noted noted ∙ ap (λ b. not b && is_noted noted c.args.index.now) (same_entry-apart noted (record { number = c.number.result; id = c.args.id }) differs)
