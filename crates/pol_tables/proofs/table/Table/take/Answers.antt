use Rattle.std.proofs.Common.{Some, ap, ◌∙◌}
use Rattle.pol_tables.specs.Slots.{IsSlot, kept, row_in}
use Rattle.pol_tables.proofs.PlaceLemmas.{kept-at}
use Rattle.pol_tables.proofs.SlotLemmas.{AreSlots-take, found-kept, missed-kept, take-kept, unknown-kept}
use Rattle.pol_tables.proofs.table.Table.take.Goals as goal

pub returns-in_err-place-clause-taken : goal.returns-in_err-place-clause-taken
returns-in_err-place-clause-taken g c =
    rw (← c.self.view_is, ← c.as_slice.ensures.value) (c.from_residual.ensures ∙ missed-kept g.R.Keyed.key c.args.id c.as_slice.result.now c.in_err-place.ensures)

pub returns-in_err-place-clause-rows : goal.returns-in_err-place-clause-rows
returns-in_err-place-clause-rows g c =
    rw (← c.self.view_is, ← c.as_slice.ensures.value) (kept-at g.R.Keyed.key c.args.id (kept c.as_slice.result.now) (unknown-kept g.R.Keyed.key c.args.id c.as_slice.result.now c.in_err-place.ensures))

pub invariant_of-self : goal.invariant_of-self
invariant_of-self g c =
    let place : IsSlot g.R.Keyed.key c.args.id c.self.inside.slots.items (Some c.in_ok-place.place) = rw (← c.as_slice.ensures.value) c.in_ok-place.ensures in
    rw c.replace-taken.ensures.after (AreSlots-take g.R.Keyed.key c.args.id c.self.inside.slots.items c.self.inside.rise c.self.inside.gone c.in_ok-place.place c.self.invariant place)

pub returns-clause-taken : goal.returns-clause-taken
returns-clause-taken g c =
    let place : IsSlot g.R.Keyed.key c.args.id c.self.inside.slots.items (Some c.in_ok-place.place) = rw (← c.as_slice.ensures.value) c.in_ok-place.ensures in
    rw (← c.self.view_is) (c.into_row.ensures ∙ ap row_in (c.replace-taken.ensures.value ∙ c.index_mut.ensures.value) ∙ found-kept g.R.Keyed.key c.args.id c.self.inside.slots.items c.in_ok-place.place c.index_mut.result.now c.self.invariant.differ place)

pub returns-clause-rows : goal.returns-clause-rows
returns-clause-rows g c =
    let place : IsSlot g.R.Keyed.key c.args.id c.self.inside.slots.items (Some c.in_ok-place.place) = rw (← c.as_slice.ensures.value) c.in_ok-place.ensures in
    rw (← c.self.view_is) (c.sweep.ensures.rows ∙ rw c.replace-taken.ensures.after (take-kept g.R.Keyed.key c.args.id c.args.id c.self.inside.slots.items c.in_ok-place.place c.self.invariant.differ place))
