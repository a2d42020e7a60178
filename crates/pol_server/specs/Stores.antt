-- The stores that requests are answered from, and what passes have seen of both.
use Rattle.std.specs.Prelude.{◌≡◌, ◌≤◌, ℕ, List, Option}
use Rattle.pol_server.specs.declared.stores.Stores.{Stores}
use Rattle.pol_server.specs.Both.{SeenBoth}
use Rattle.pol_shared_objects.specs.Held.{Held, HoldsImages}
use Rattle.pol_shared_objects.specs.HeldObjects.{HeldObjects, HoldsObjectImages}

-- what the passes have seen
abbrev pub seen_of : {D O : Type 0} → Stores D O → SeenBoth
seen_of stores = record { catalogue = stores.catalogue.seen; objects = stores.objects.seen }

-- what a crash since the opening may have left of the catalogue's journal is known as before, and the disk's count of
-- faults has not fallen
pub record KeepsCatalogue {D : Type 0} (seen : D → Option (List ℕ)) (may_leave : D → List ℕ → Type 0) (clock : D → ℕ) (left_since : D → ℕ → List ℕ → Type 0) (fault_count : D → ℕ) (old new : Held D) : Type 0 where
  pub images : (opening : List (List ℕ)) → HoldsImages seen may_leave clock left_since fault_count opening old
      → HoldsImages seen may_leave clock left_since fault_count opening new
  pub opening : new.journal.opening ≡ old.journal.opening
  pub faults : fault_count old.journal.disk ≤ fault_count new.journal.disk

-- and of the objects'
pub record KeepsObjects {D : Type 0} (seen : D → Option (List ℕ)) (may_leave : D → List ℕ → Type 0) (clock : D → ℕ) (left_since : D → ℕ → List ℕ → Type 0) (fault_count : D → ℕ) (old new : HeldObjects D) : Type 0 where
  pub images : (opening : List (List ℕ)) → HoldsObjectImages seen may_leave clock left_since fault_count opening old
      → HoldsObjectImages seen may_leave clock left_since fault_count opening new
  pub opening : new.journal.opening ≡ old.journal.opening
  pub faults : fault_count old.journal.disk ≤ fault_count new.journal.disk
