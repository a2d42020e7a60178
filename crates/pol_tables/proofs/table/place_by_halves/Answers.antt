use Rattle.std.proofs.Common.{rules}
use Rattle.std.proofs.lemmas.Fn.{always_returns_same}
use Rattle.pol_tables.specs.Slots.{slot_key}
use Rattle.pol_tables.proofs.PlaceLemmas.{searched}
use Rattle.pol_tables.proofs.table.place_by_halves.Goals as goal

pub returns : goal.returns
returns g c =
    let facts = c.binary_search_by_key.ensures in
    let by_key = facts.position (slot_key g.R.Keyed.key) (always_returns_same _ _ _ (λ a r f called. (search rules, search rules))) in
    rw c.ok.ensures.value (searched (slot_key g.R.Keyed.key) c.args.id c.args.slots.now c.binary_search_by_key.result c.requires facts.bound by_key)
