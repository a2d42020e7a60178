use Rattle.std.proofs.Common.{subst, sym}
use Rattle.pol_blocks.specs.Blocks.{flat}
use Rattle.pol_objects.specs.Objects.{IsKept}
use Rattle.pol_objects.proofs.Kept.{none-kept}
use Rattle.pol_objects.proofs.object_map.ObjectMap.new.Goals as goal

pub invariant_of-result : goal.invariant_of-result
invariant_of-result c = subst (λ blocks. IsKept (flat blocks)) (sym c.new.ensures) none-kept
