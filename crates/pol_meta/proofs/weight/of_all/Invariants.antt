use Rattle.std.proofs.Common.{◌≡◌, take}
use Rattle.std.specs.List.{sum_by}
use Rattle.pol_meta.specs.Weight.{capped}
use Rattle.pol_meta.proofs.weight.of_all.Given as goal

abbrev pub invariant-loop-item : goal.invariant-loop-item
invariant-loop-item g l = l.weight ≡ capped (sum_by g.T.Weighs.weight (take l.item-index l.items))
