use Rattle.std.proofs.Common.{false, rules, tests, true, ◌≡◌}
use Rattle.std.proofs.lemmas.Iterator.{YieldsList-from_slice, IsFirst-from_position}
use Rattle.pol_tables.specs.Slots.{has_row}
use Rattle.pol_tables.proofs.SlotLemmas.{no_row, scanned, searched}
use Rattle.pol_tables.proofs.table.place_of.Goals as goal

pub returns-in_err-place : goal.returns-in_err-place
returns-in_err-place g c =
    rw c.from_residual.ensures (no_row g.R.Keyed.key c.args.id c.args.slots.now c.in_err-place.ensures)

pub returns-then-rise : goal.returns-then-rise
returns-then-rise g c =
    rw (c.then_some.ensures, c.has.ensures) (searched g.R.Keyed.key c.args.id c.args.slots.now c.in_ok-place.place c.index-slots-place.result (c.requires c.if-rise.true) c.in_ok-place.ensures c.index-slots-place.is)

pub returns : goal.returns
returns g c =
    let test = has_row g.R.Keyed.key c.args.id in
    let first = IsFirst-from_position _ _ c.position.result (λ slot. test slot ≡ true) (λ slot. test slot ≡ false)
    c.position.ensures.ran (YieldsList-from_slice c.args.slots.now c.iter.ensures.rest) (λ x q k. search (rules, tests)) (λ x q k. search (rules, tests)) in
    scanned g.R.Keyed.key c.args.id c.args.slots.now c.position.result first
