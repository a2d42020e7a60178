-- What a pass sees of a store of objects that was made or opened.
use Rattle.std.specs.Prelude.{◌≡◌, ℕ, List, [], Option, Result, Ok, Err}
use Rattle.pol_journal.specs.Format.{StandsFor, extent}
use Rattle.pol_journal.specs.declared.kind.Kind.TheVariants.{Objects}
use Rattle.pol_object_store.specs.Reopened.{LeadTo}
use Rattle.pol_shared_objects.specs.HeldObjects.{HeldObjects, HoldsObjectImages}

-- a file was opened: it stands for bodies that lead to the objects at the opening, and the journal keeps them
pub record ReopensObjects {D : Type 0} (seen : D → Option (List ℕ)) (may_leave : D → List ℕ → Type 0) (clock : D → ℕ) (left_since : D → ℕ → List ℕ → Type 0) (fault_count : D → ℕ) (file : List ℕ) (held : HeldObjects D) : Type 0 where
  pub bodies : List (List ℕ)
  pub leads : LeadTo [] bodies held.seen.base.objects
  pub stands : StandsFor Objects bodies file
  pub opened : held.seen.opened ≡ extent bodies
  pub images : HoldsObjectImages seen may_leave clock left_since fault_count bodies held

-- the disk of a store that was made or opened, or that is handed back
abbrev pub held_disk : {D E : Type 0} → Result (HeldObjects D) (D × E) → D
held_disk (Ok held) = held.journal.disk
held_disk (Err refused) = refused.0
