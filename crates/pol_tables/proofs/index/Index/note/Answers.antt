use Rattle.std.proofs.Common.{◌≡◌, false, Option, None, Some, is_some, refl, true≢false, ap, sym, ◌∙◌, ◌||◌}
use Rattle.std.specs.Map.{values_of}
use Rattle.pol_tables.specs.Facts.{holds}
use Rattle.pol_tables.specs.contracts.index.IndexEntry.{the_row}
use Rattle.pol_tables.proofs.FirstsLemmas.{lookup-firsts, differ-firsts, stand-after, firsts-after}
use Rattle.pol_tables.proofs.IndexLemmas.{noted-first, noted-other}
use Rattle.pol_tables.proofs.TableLemmas.{some_is}
use Rattle.pol_tables.proofs.index.Index.note.Goals as goal

is_none : {T : Type 0} (found : Option T) → is_some found ≡ false → found ≡ None
is_none None no_ = refl
is_none (Some found) no_ = absurd (true≢false no_)

pub returns-then-contains_key-clause-noted : goal.returns-then-contains_key-clause-noted
returns-then-contains_key-clause-noted c other =
    let firsts = values_of c.self.inside.firsts.entries in
    rw (← c.self.view_is) (ap (λ others. holds the_row.coded other firsts || holds the_row.coded other others) (rw c.unwrap.ensures at c.push.ensures.items) ∙ noted-other c.args.noted firsts c.self.inside.others.items other)

pub returns-else-contains_key-clause-noted : goal.returns-else-contains_key-clause-noted
returns-else-contains_key-clause-noted c other =
    let noted = c.args.noted in
    let entries = c.self.inside.firsts.entries in
    let after = c.insert-put.new.self.entries in
    let stand = c.self.invariant.0 in
    let unique = c.self.invariant.1 in
    let updates = (rw c.unwrap-else-contains_key.ensures at c.insert-put.ensures.updates).0 in
    let none = sym (lookup-firsts entries stand unique noted.number) ∙ is_none _ (sym c.contains_key.ensures ∙ c.if-contains_key.false) in
    let stand_ = stand-after entries stand unique after noted.number (Some noted) updates (λ put is. ap (λ kept. kept.number) (some_is noted put is)) in
    let differ = differ-firsts entries stand unique in
    let differ_ = differ-firsts after stand_ c.insert-put.ensures.unique in
    rw (← c.self.view_is) (noted-first noted (values_of entries) (values_of after) c.self.inside.others.items differ differ_ none (firsts-after entries stand unique after noted.number (Some noted) updates stand_ c.insert-put.ensures.unique) other)
