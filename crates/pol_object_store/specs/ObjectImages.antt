-- What a crash at any moment since the opening may have left of an objects' journal.
use Rattle.std.specs.Prelude.{ℕ, ◌≡◌, List, [], ◌∷◌, Option}
use Rattle.std.specs.List.{AllByRecursion}
use mathlib.Core.List.{IsPrefix}
use Rattle.pol_journal.specs.Journal.{JournalState}
use Rattle.pol_objects.specs.declared.action.ObjectAction.{ObjectAction}
use Rattle.pol_objects.specs.declared.object_state.ObjectState.{ObjectState}
use Rattle.pol_records.specs.Holding.{Holds, Lost}
use Rattle.pol_object_store.specs.ObjectHistory.{object_state_at}
use Rattle.pol_object_store.specs.ObjectRecords.{AreFormed, AreForms, object_bodies, object_changes, object_records}
use Rattle.pol_object_store.specs.declared.entry.ObjectEntry.{ObjectEntry}

-- an append that failed was that of an action's change, which has a form, behind the records of some first entries of the
-- history
pub record IsLostChange (base : ObjectState) (history : List ObjectEntry) (one : Lost) : Type 0 where
  pub front : List ObjectEntry
  pub first : IsPrefix front history
  pub action : ObjectAction
  pub behind : one.behind ≡ object_records base front
  pub body : object_bodies (object_changes (object_state_at base front) action) ≡ one.body ∷ []
  pub formed : AreForms (object_changes (object_state_at base front) action)

-- The journal has the opening bodies and then the records of the history, and each of the records has a form, so that it
-- can be read back. Each image at each moment since the opening stands for the opening bodies and some first ones of the
-- records, or for those that stood before an append that failed with its body, which is the form of an action's change in
-- its place; and no more of them failed than the disk's count of faults rose
pub record KeepsObjectImages {D : Type 0} (seen : D → Option (List ℕ)) (may_leave : D → List ℕ → Type 0) (clock : D → ℕ) (left_since : D → ℕ → List ℕ → Type 0) (fault_count : D → ℕ) (opening : List (List ℕ)) (base : ObjectState) (history : List ObjectEntry) (journal : JournalState D) : Type 0 where
  pub lost : List Lost
  pub holds : Holds seen may_leave clock left_since fault_count opening (object_records base history) lost journal
  pub changes : AllByRecursion (IsLostChange base history) lost
  pub formed : AreFormed base history
