-- A store of objects as a pass holds it.
use Rattle.std.specs.Prelude.{ℕ, List, Option}
use Rattle.pol_journal.specs.Journal.{JournalState}
use Rattle.pol_object_store.specs.ObjectImages.{KeepsObjectImages}
use Rattle.pol_shared_objects.specs.SeenObjects.{SeenObjects}

-- what the pass has seen, and the journal
pub record HeldObjects (D : Type 0) : Type 0 where
  pub seen : SeenObjects
  pub journal : JournalState D

-- what a crash at any moment since the opening may have left of its journal, which had these bodies then
abbrev pub HoldsObjectImages : {D : Type 0} → (D → Option (List ℕ)) → (D → List ℕ → Type 0) → (D → ℕ) → (D → ℕ → List ℕ → Type 0) → (D → ℕ) → List (List ℕ) → HeldObjects D → Type 0
HoldsObjectImages seen may_leave clock left_since fault_count opening held =
    KeepsObjectImages seen may_leave clock left_since fault_count opening held.seen.base held.seen.front held.journal
