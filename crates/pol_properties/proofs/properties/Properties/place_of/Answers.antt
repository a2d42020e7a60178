use Rattle.std.proofs.Common.{rules}
use Rattle.std.proofs.lemmas.Fn.{always_returns_same}
use Rattle.pol_properties.specs.Properties.{compared}
use Rattle.pol_properties.proofs.CutLemmas.{searched}
use Rattle.pol_properties.proofs.properties.Properties.place_of.Goals as goal

-- the closure compares a pair's key with the key, and the slice is the map's pairs
pub returns : goal.returns
returns c =
    let facts = c.binary_search_by.ensures in
    let by_key = facts.position (compared c.args.key.now) (always_returns_same _ _ _ (λ a r g called. (search rules, search rules))) in
    rw (← c.self.view_is, ← c.deref.ensures.value) (searched c.args.key.now c.deref.result.now (rw c.deref.ensures.value c.self.invariant) c.binary_search_by.result facts.bound by_key)
