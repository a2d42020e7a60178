use Rattle.std.proofs.Common.{ap, arith, length, ◌<◌, ◌≡◌, ◌≤◌, ◌∙◌}
use Rattle.std.proofs.lemmas.Bool.Decides.{nat_tests}
use Rattle.std.proofs.lemmas.Iterator.Consumers.{nth_from_yields_List, YieldsList-from_first}
use Rattle.pol_tables.specs.Slots.{kept, row_in}
use Rattle.pol_tables.proofs.SlotLemmas.{kept-full, kept-past}
use Rattle.pol_tables.proofs.table.Table.at.Goals as goal

pub returns-then-self-gt0 : goal.returns-then-self-gt0
returns-then-self-gt0 g c =
    nth_from_yields_List c.nth.result c.nth.new.self c.args.place c.nth.ensures.ran (YieldsList-from_first (λ row. row.now) (λ rest. rest) c.args.self.now.rows c.rows.ensures.rows)

pub returns-in-Some : goal.returns-in-Some
returns-in-Some g c =
    let full : length (kept c.deref.result.now) ≡ length c.deref.result.now = rw c.deref.ensures.value (omega (arith, c.self.invariant.counted, c.if-self-gt0.false)) in
    let within : c.args.place < length c.deref.result.now = grind (arith, nat_tests, c.in-Some.ensures.lookup.0) in
    rw (← c.self.view_is, ← c.deref.ensures.value) (c.row.ensures ∙ ap row_in c.in-Some.ensures.lookup.1 ∙ kept-full c.deref.result.now c.args.place c.in-Some.slot.now full within)

pub returns-in-None : goal.returns-in-None
returns-in-None g c =
    let past : length c.deref.result.now ≤ c.args.place = grind (arith, nat_tests, c.in-None.ensures.lookup.0) in
    rw (← c.self.view_is, ← c.deref.ensures.value) (kept-past c.deref.result.now c.args.place past)
