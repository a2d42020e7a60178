use Rattle.std.proofs.Common.{rules}
use Rattle.std.proofs.lemmas.Fn.{filter_same}
use Rattle.pol_tables.proofs.SlotLemmas.{AreSlots-sweep, is_kept, kept-swept}
use Rattle.pol_tables.proofs.table.Table.sweep.Goals as goal

pub invariant_of-self : goal.invariant_of-self
invariant_of-self g c =
    let swept = filter_same _ is_kept _ (λ x b f' k. search rules) _ _ c.retain.ensures.filtered in
    rw swept (AreSlots-sweep g.R.Keyed.key c.self.inside.slots.items c.self.inside.rise c.self.inside.gone c.self.invariant)

pub returns-then-self-len-clause-rows : goal.returns-then-self-len-clause-rows
returns-then-self-len-clause-rows g c =
    let swept = filter_same _ is_kept _ (λ x b f' k. search rules) _ _ c.retain.ensures.filtered in
    rw (swept, ← c.self.view_is) (kept-swept c.self.inside.slots.items)
