use Rattle.std.proofs.Common.{◌≡◌, length, take}
use Rattle.std.specs.List.{sum_by}
use Rattle.pol_meta.specs.Weight.{capped}
use Rattle.pol_views.proofs.weight.of_levels.Given as goal

abbrev pub invariant-loop-level : goal.invariant-loop-level
invariant-loop-level l = l.weight ≡ capped (sum_by length (take l.level-index l.levels))
