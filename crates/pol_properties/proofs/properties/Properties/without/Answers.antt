use Rattle.std.proofs.Common.{filter, not, ap, subst, sym, ◌∙◌, arith}
use Rattle.std.proofs.lemmas.List.{take_all}
use Rattle.std.proofs.lemmas.List.Kept.{IsStrictlySortedBy-filter}
use Rattle.pol_properties.specs.Properties.{KeysAscend, is_among}
use Rattle.pol_properties.specs.declared.property.Property.{Property}
use Rattle.pol_properties.proofs.CutLemmas.{by_keys}
use Rattle.pol_properties.proofs.properties.Properties.without.Goals as goal

pub invariant_of-result : goal.invariant_of-result
invariant_of-result c =
    let pairs = c.self.inside.pairs.items in
    let stays = λ (pair : Property). not (is_among c.args.removals.now pair.key) in
    let whole = take_all c.loop-pair.pair-index c.as_slice-pairs.result.now (omega (arith, c.loop-pair-test.false)) ∙ c.as_slice-pairs.ensures.value in
    subst KeysAscend (sym (c.loop-pair.invariant ∙ ap (filter stays) whole)) (IsStrictlySortedBy-filter by_keys stays pairs c.self.invariant)
