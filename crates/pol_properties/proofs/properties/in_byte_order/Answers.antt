use Rattle.std.proofs.Common.{nat_eq, ◌∙◌}
use Rattle.std.specs.Cmp.Lexicographic.{pointwise}
use Rattle.std.proofs.lemmas.List.Filters.{dedup_is}
use Rattle.pol_properties.proofs.SetLemmas.{sorted-in_byte_order}
use Rattle.pol_properties.proofs.properties.in_byte_order.Goals as goal

pub returns : goal.returns
returns c =
    let sorted = c.sort_unstable.new.self.items in
    dedup_is (pointwise nat_eq) sorted c.dedup.new.self.items c.dedup.ensures.filtered
    ∙ sorted-in_byte_order c.args.keys.items sorted c.sort_unstable.ensures.permutation c.sort_unstable.ensures.sorted
