use Rattle.std.proofs.Common.{arith, rules, Some, None, ◌∷◌, ◌++◌, [], ◌≡◌, ◌∙◌, false, sym, true≢false}
use Rattle.pol_tables.specs.Slots.{IsSlot}
use Rattle.pol_tables.specs.Table.{knows}
use Rattle.pol_tables.specs.declared.slot.Slot.TheVariants.{Kept}
use Rattle.pol_tables.proofs.SlotLemmas.{AreSlots-push, AreSlots-put, pushed-kept, put-kept, unknown-kept}
use Rattle.pol_tables.proofs.table.Table.put.Given as given
use Rattle.pol_tables.proofs.table.Table.put.Goals as goal
use Rattle.pol_tables.proofs.table.Table.put.Goals.{After-push, After-unwrap, Joined-index_mut}

-- the place of the row's own id
placed : (g : given.Over) (c : Joined-index_mut g) → IsSlot g.R.Keyed.key (g.R.Keyed.key c.args.row) c.self.inside.slots.items (Some c.in-Some.place)
placed g c = rw (← c.key-id.ensures, ← c.as_slice.ensures.value) c.in-Some.ensures

pub invariant_of-self : goal.invariant_of-self
invariant_of-self g c =
    AreSlots-put g.R.Keyed.key c.args.row c.self.inside.slots.items c.self.inside.rise c.self.inside.gone c.in-Some.place c.self.invariant (placed g c)

pub returns-in-Some-clause-rows : goal.returns-in-Some-clause-rows
returns-in-Some-clause-rows g c =
    rw (← c.self.view_is) (put-kept g.R.Keyed.key c.args.row c.self.inside.slots.items c.in-Some.place c.self.invariant.differ (placed g c))

-- no place has a new id's row
missed : (g : given.Over) (c : After-push g) → IsSlot g.R.Keyed.key (g.R.Keyed.key c.args.row) c.self.inside.slots.items None
missed g c = rw (← c.key-id.ensures, ← c.as_slice.ensures.value) c.in_default.ensures

unknown : (g : given.Over) (c : After-push g) → knows g.R.Keyed.key (g.R.Keyed.key c.args.row) c.args.self.now.rows ≡ false
unknown g c =
    rw (← c.self.view_is) (unknown-kept g.R.Keyed.key (g.R.Keyed.key c.args.row) c.self.inside.slots.items (missed g c))

-- a new id's row is pushed
pushed : (g : given.Over) (c : After-unwrap g) → c.push.new.self.items ≡ c.self.inside.slots.items ++ Kept c.args.row ∷ []
pushed g c = rw c.unwrap.ensures at c.push.ensures.items

pub unwrap-requires : goal.unwrap-requires
unwrap-requires g c =
    let room = c.requires (unknown g c) in
    search (rules, arith)

pub invariant_of-self-2 : goal.invariant_of-self-2
invariant_of-self-2 g c =
    rw (pushed g c) (AreSlots-push g.R.Keyed.key c.args.row c.self.inside.slots.items c.self.inside.rise c.rise_with-self-inside.result c.self.inside.gone c.self.invariant (missed g c.before) (λ rise. rw (c.key-id.ensures, c.as_slice-2.ensures.value) at c.rise_with-self-inside.ensures rise))

pub returns-clause-rows : goal.returns-clause-rows
returns-clause-rows g c =
    rw (← c.self.view_is, pushed g c) (pushed-kept g.R.Keyed.key c.args.row c.self.inside.slots.items (missed g c.before))

pub returns-clause-known : goal.returns-clause-known
returns-clause-known g c known = absurd (true≢false (sym known ∙ unknown g c.before))
