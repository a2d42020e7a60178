use Rattle.std.proofs.Common.{ap, subst, sym, ◌∙◌}
use Rattle.pol_tables.specs.Slots.{kept, row_in}
use Rattle.pol_tables.specs.Table.{IdsDiffer}
use Rattle.pol_tables.proofs.SlotLemmas.{found-kept, missed-kept}
use Rattle.pol_tables.proofs.table.Table.find.Goals as goal

pub returns-in-Some : goal.returns-in-Some
returns-in-Some g c =
    let differ = subst (λ slots. IdsDiffer g.R.Keyed.key (kept slots)) (sym c.as_slice-slots.ensures.value) c.self.invariant.differ in
    rw (← c.self.view_is, ← c.as_slice-slots.ensures.value) (c.row.ensures ∙ ap row_in c.index-slots-place.is ∙ found-kept g.R.Keyed.key c.args.id c.as_slice-slots.result.now c.in-Some.place c.index-slots-place.result differ c.in-Some.ensures)

pub returns-in-None : goal.returns-in-None
returns-in-None g c =
    rw (← c.self.view_is, ← c.as_slice-slots.ensures.value) (missed-kept g.R.Keyed.key c.args.id c.as_slice-slots.result.now c.in-None.ensures)
