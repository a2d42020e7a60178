-- What a crash may have left of the stores stays known: where nothing was done, and over one call and then another.
use Rattle.std.proofs.Common.{ℕ, List, Option, refl, ◌∙◌, arith}
use Rattle.pol_server.specs.Stores.{KeepsCatalogue, KeepsObjects}
use Rattle.pol_shared_objects.specs.Held.{Held}
use Rattle.pol_shared_objects.specs.HeldObjects.{HeldObjects}

module _ {D : Type 0} (seen : D → Option (List ℕ)) (may_leave : D → List ℕ → Type 0) (clock : D → ℕ) (left_since : D → ℕ → List ℕ → Type 0) (fault_count : D → ℕ) where
  pub catalogue-same : (held : Held D) → KeepsCatalogue seen may_leave clock left_since fault_count held held
  catalogue-same held = record { images = λ opening images. images; opening = refl; faults = omega arith }

  pub catalogue-trans : (a b c : Held D) → KeepsCatalogue seen may_leave clock left_since fault_count a b → KeepsCatalogue seen may_leave clock left_since fault_count b c
      → KeepsCatalogue seen may_leave clock left_since fault_count a c
  catalogue-trans a b c first second = record {
    images = λ opening images. second.images opening (first.images opening images);
    opening = second.opening ∙ first.opening;
    faults = omega (arith, first.faults, second.faults);
  }

  pub objects-same : (held : HeldObjects D) → KeepsObjects seen may_leave clock left_since fault_count held held
  objects-same held = record { images = λ opening images. images; opening = refl; faults = omega arith }

  pub objects-trans : (a b c : HeldObjects D) → KeepsObjects seen may_leave clock left_since fault_count a b → KeepsObjects seen may_leave clock left_since fault_count b c
      → KeepsObjects seen may_leave clock left_since fault_count a c
  objects-trans a b c first second = record {
    images = λ opening images. second.images opening (first.images opening images);
    opening = second.opening ∙ first.opening;
    faults = omega (arith, first.faults, second.faults);
  }
