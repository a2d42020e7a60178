use Rattle.std.proofs.Common.{None, ap, sym, not, ◌||◌, ◌∙◌, rules}
use Rattle.std.proofs.lemmas.Fn.{filter_same}
use Rattle.std.specs.Map.{values_of}
use Rattle.pol_tables.specs.Facts.{holds}
use Rattle.pol_tables.specs.contracts.index.IndexEntry.{the_row}
use Rattle.pol_tables.proofs.FirstsLemmas.{differ-firsts, stand-after, firsts-after}
use Rattle.pol_tables.proofs.IndexLemmas.{equal_note, forgotten-first, forgotten-other, others-without}
use Rattle.pol_tables.proofs.index.Index.forget.Goals as goal

pub returns-then-has_first-clause-noted : goal.returns-then-has_first-clause-noted
returns-then-has_first-clause-noted c other =
    let noted = c.args.noted.now in
    let entries = c.self.inside.firsts.entries in
    let after = c.remove.new.self.entries in
    let stand = c.self.invariant.0 in
    let unique = c.self.invariant.1 in
    let updates = c.remove.ensures.updates.0 in
    let stand_ = stand-after entries stand unique after noted.number None updates (λ put is. cc) in
    let differ_ = differ-firsts after stand_ c.remove.ensures.unique in
    let firsts_ = firsts-after entries stand unique after noted.number None updates stand_ c.remove.ensures.unique in
    let kept = filter_same _ (λ one. not (equal_note noted one)) _ (λ x b f' k. search rules) _ _ c.retain.ensures.filtered ∙ others-without noted c.self.inside.others.items in
    rw (← c.self.view_is) (ap (λ others. holds the_row.coded other (values_of after) || holds the_row.coded other others) kept
    ∙ forgotten-first noted (values_of entries) (values_of after) c.self.inside.others.items c.has_first.ensures.differ differ_ (sym c.has_first.ensures.first ∙ c.if-has_first.true) firsts_ other)

pub returns-else-has_first-clause-noted : goal.returns-else-has_first-clause-noted
returns-else-has_first-clause-noted c other =
    let firsts = values_of c.self.inside.firsts.entries in
    let kept = filter_same _ (λ one. not (equal_note c.args.noted.now one)) _ (λ x b f' k. search rules) _ _ c.retain.ensures.filtered ∙ others-without c.args.noted.now c.self.inside.others.items in
    rw (← c.self.view_is) (ap (λ others. holds the_row.coded other firsts || holds the_row.coded other others) kept
    ∙ forgotten-other c.args.noted.now firsts c.self.inside.others.items c.has_first.ensures.differ (sym c.has_first.ensures.first ∙ c.if-has_first.false) other)
