use Rattle.std.proofs.Common.{arith}
use Rattle.std.proofs.lemmas.Bool.Decides.{nat_tests}
use Rattle.pol_tables.specs.Slots.{slot_key}
use Rattle.pol_tables.proofs.PlaceLemmas.{below-found, empty-rise}
use Rattle.pol_tables.proofs.table.rise_with.Goals as goal

pub returns-then-rise : goal.returns-then-rise
returns-then-rise g c above =
    let rise = c.requires c.if-rise.true in
    (rise, below-found (slot_key g.R.Keyed.key) c.args.id c.args.slots.now c.in-Some.last.now c.in-Some.ensures.value (grind (arith, nat_tests, above, c.id.ensures)) rise)

pub returns-in-None : goal.returns-in-None
returns-in-None g c _ =
    empty-rise (slot_key g.R.Keyed.key) c.args.id c.args.slots.now c.in-None.ensures.value
