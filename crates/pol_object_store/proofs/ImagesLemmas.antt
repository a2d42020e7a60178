-- What a crash may have left, once a change was written, and where it wasn't.
use Rattle.std.proofs.Common.{◌≡◌, Option, Err, ℕ, List, [], ◌∷◌, ◌++◌, map, refl, sym, ◌∙◌, ap, subst, append_assoc, append-nil}
use Rattle.std.specs.List.{AllByRecursion}
use Rattle.pol_journal.specs.Journal.{JournalState}
use Rattle.pol_objects.specs.declared.action.ObjectAction.{ObjectAction}
use Rattle.pol_objects.specs.declared.object_state.ObjectState.{ObjectState}
use Rattle.pol_records.specs.Holding.{Holds, Lost, lost_behind}
use Rattle.pol_records.specs.declared.unwritten.Unwritten.TheVariants as unwritten
use Rattle.pol_object_store.specs.Acted.{lost_after}
use Rattle.pol_object_store.specs.ObjectHistory.{object_state_at}
use Rattle.pol_object_store.specs.ObjectImages.{IsLostChange, KeepsObjectImages}
use Rattle.pol_object_store.specs.ObjectRecords.{AreFormed, AreForms, object_bodies, object_changes, object_records}
use Rattle.pol_object_store.specs.Recorded.{AreFormedBy, IsRecorded, IsUndone, acted_by}
use Rattle.pol_object_store.specs.declared.entry.ObjectEntry.{ObjectEntry}
use Rattle.pol_object_store.specs.declared.undone.Undone.{Undone}
use Rattle.pol_object_store.specs.declared.undone.Undone.TheVariants as undone
use Rattle.pol_object_store.proofs.HistoryLemmas.{formed_at, no_records, records_push}

all_push : {A : Type 0} (P : A → Type 0) (xs : List A) (x : A) → AllByRecursion P xs → P x → AllByRecursion P (xs ++ x ∷ [])
all_push P [] x all one = (one, tt)
all_push P (y ∷ xs) x all one = (all.0, all_push P xs x all.1 one)

all_map : {A : Type 0} (P Q : A → Type 0) → ((x : A) → P x → Q x) → (xs : List A) → AllByRecursion P xs → AllByRecursion Q xs
all_map P Q holds [] all = tt
all_map P Q holds (x ∷ xs) all = (holds x all.0, all_map P Q holds xs all.1)

lost_still : (base : ObjectState) (history more : List ObjectEntry) (one : Lost) → IsLostChange base history one → IsLostChange base (history ++ more) one
lost_still base history more one is = record {
  front = is.front;
  first = (is.first.0 ++ more, sym (append_assoc is.front is.first.0 more) ∙ ap (λ (l : List ObjectEntry). l ++ more) is.first.1);
  action = is.action;
  behind = is.behind;
  body = is.body;
  formed = is.formed;
}

module _ {D : Type 0} (seen : D → Option (List ℕ)) (may_leave : D → List ℕ → Type 0) (clock : D → ℕ) (left_since : D → ℕ → List ℕ → Type 0) (fault_count : D → ℕ) where
  abbrev Held : List (List ℕ) → List (List ℕ) → List Lost → JournalState D → Type 0
  Held = Holds seen may_leave clock left_since fault_count

  abbrev Keeps : List (List ℕ) → ObjectState → List ObjectEntry → JournalState D → Type 0
  Keeps = KeepsObjectImages seen may_leave clock left_since fault_count

  -- nothing was done since an opening
  pub images_begin : (opening : List (List ℕ)) (base : ObjectState) (history : List ObjectEntry) (journal : JournalState D) → history ≡ []
      → Held opening [] [] journal → Keeps opening base history journal
  unfolding AreFormed
  images_begin opening base history journal none holds = record {
    lost = [];
    holds = subst (λ (l : List (List ℕ)). Held opening l [] journal) (sym (no_records base history none)) holds;
    changes = tt;
    formed = subst (λ (l : List ObjectEntry). AreFormed base l) (sym none) tt;
  }

  -- the appends that failed
  module _ (opening : List (List ℕ)) (base state : ObjectState) (history items : List ObjectEntry) (lost : List Lost) (old new : JournalState D) (state_is : state ≡ object_state_at base history) (held : Held opening (object_records base history) lost old) where
    -- where the change of an entry was written they stay
    pub held_recorded : (entry : ObjectEntry) → items ≡ history ++ entry ∷ []
        → IsRecorded seen may_leave clock left_since fault_count (object_bodies (object_changes state entry.action)) old new
        → Held opening (object_records base items) lost new
    held_recorded entry items_are is =
        subst (λ (l : List (List ℕ)). Held opening l lost new)
        (ap (λ (s : ObjectState). object_records base history ++ object_bodies (object_changes s entry.action)) state_is
        ∙ sym (records_push base history entry) ∙ ap (object_records base) (sym items_are))
        (is.holds opening (object_records base history) lost held)

    -- and where that of an action wasn't, it is one of them if that is unknown
    module _ (action : ObjectAction) where
      held_undone_at : (why : Undone) → IsUndone seen may_leave clock left_since fault_count (object_bodies (object_changes (object_state_at base history) action)) old new why
          → Held opening (object_records base history)
          (lost_after (acted_by why) (object_records base history) (object_changes (object_state_at base history) action) lost) new
      held_undone_at (undone.Unwritten (unwritten.JournalFull end wanted)) is = is.holds opening (object_records base history) lost held
      held_undone_at (undone.Unwritten unwritten.Unknown) is =
          subst (λ (l : List (List ℕ)). Held opening (object_records base history) (lost ++ map (lost_behind (object_records base history)) l) new)
          (sym is.one) (is.holds opening (object_records base history) lost held)
      held_undone_at (undone.Unwritten unwritten.DiskFault) is = is.holds opening (object_records base history) lost held
      held_undone_at undone.OutOfMemory is = subst (λ (j : JournalState D). Held opening (object_records base history) lost j) (sym is) held

      pub held_undone : (why : Undone) → IsUndone seen may_leave clock left_since fault_count (object_bodies (object_changes state action)) old new why
          → Held opening (object_records base history)
          (lost_after (acted_by why) (object_records base history) (object_changes (object_state_at base history) action) lost) new
      held_undone why is =
          held_undone_at why (subst (λ (s : ObjectState). IsUndone seen may_leave clock left_since fault_count (object_bodies (object_changes s action)) old new why) state_is is)

  module _ (opening : List (List ℕ)) (base state : ObjectState) (history items : List ObjectEntry) (old new : JournalState D) (state_is : state ≡ object_state_at base history) (keeps : Keeps opening base history old) where
    -- the change of an entry was written
    recorded_at : (entry : ObjectEntry) → IsRecorded seen may_leave clock left_since fault_count (object_bodies (object_changes (object_state_at base history) entry.action)) old new
        → AreForms (object_changes (object_state_at base history) entry.action) → Keeps opening base (history ++ entry ∷ []) new
    recorded_at entry is one = record {
      lost = keeps.lost;
      holds = subst (λ (l : List (List ℕ)). Held opening l keeps.lost new) (sym (records_push base history entry)) (is.holds opening (object_records base history) keeps.lost keeps.holds);
      changes = all_map (IsLostChange base history) (IsLostChange base (history ++ entry ∷ [])) (lost_still base history (entry ∷ [])) keeps.lost keeps.changes;
      formed = formed_at base history entry keeps.formed one;
    }

    pub images_recorded : (entry : ObjectEntry) → items ≡ history ++ entry ∷ []
        → IsRecorded seen may_leave clock left_since fault_count (object_bodies (object_changes state entry.action)) old new
        → AreForms (object_changes state entry.action) → Keeps opening base items new
    images_recorded entry items_are is one =
        subst (λ (l : List ObjectEntry). Keeps opening base l new) (sym items_are)
        (recorded_at entry (subst (λ (s : ObjectState). IsRecorded seen may_leave clock left_since fault_count (object_bodies (object_changes s entry.action)) old new) state_is is)
        (subst (λ (s : ObjectState). AreForms (object_changes s entry.action)) state_is one))

    -- the change of an action wasn't
    module _ (action : ObjectAction) where
      undone_at : (why : Undone) → IsUndone seen may_leave clock left_since fault_count (object_bodies (object_changes (object_state_at base history) action)) old new why
          → AreFormedBy {A = ℕ} (object_changes (object_state_at base history) action) (Err why) → Keeps opening base history new
      undone_at (undone.Unwritten (unwritten.JournalFull end wanted)) is formed = record {
        lost = keeps.lost;
        holds = is.holds opening (object_records base history) keeps.lost keeps.holds;
        changes = keeps.changes;
        formed = keeps.formed;
      }
      undone_at (undone.Unwritten unwritten.Unknown) is formed = record {
        lost = keeps.lost ++ lost_behind (object_records base history) is.body ∷ [];
        holds = is.holds opening (object_records base history) keeps.lost keeps.holds;
        changes = all_push (IsLostChange base history) keeps.lost (lost_behind (object_records base history) is.body) keeps.changes
            (record { front = history; first = ([], append-nil history); action = action; behind = refl; body = is.one; formed = formed });
        formed = keeps.formed;
      }
      undone_at (undone.Unwritten unwritten.DiskFault) is formed = record {
        lost = keeps.lost;
        holds = is.holds opening (object_records base history) keeps.lost keeps.holds;
        changes = keeps.changes;
        formed = keeps.formed;
      }
      undone_at undone.OutOfMemory is formed = subst (λ (j : JournalState D). Keeps opening base history j) (sym is) keeps

      pub images_undone : (why : Undone) → items ≡ history → IsUndone seen may_leave clock left_since fault_count (object_bodies (object_changes state action)) old new why
          → AreFormedBy {A = ℕ} (object_changes state action) (Err why) → Keeps opening base items new
      images_undone why items_are is formed =
          subst (λ (l : List ObjectEntry). Keeps opening base l new) (sym items_are)
          (undone_at why (subst (λ (s : ObjectState). IsUndone seen may_leave clock left_since fault_count (object_bodies (object_changes s action)) old new why) state_is is)
          (subst (λ (s : ObjectState). AreFormedBy {A = ℕ} (object_changes s action) (Err why)) state_is formed))
