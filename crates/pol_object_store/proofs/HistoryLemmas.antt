-- The state that a history leads to, and the records of it: at its beginning, and with an entry more.
use Rattle.std.proofs.Common.{◌≡◌, inl, inr, ℕ, ◌+◌, ◌≤◌, List, [], ◌∷◌, ◌++◌, length, sym, ap, subst, ◌∙◌, append_assoc, append-nil, arith}
use Rattle.std.specs.List.{fold}
use Rattle.std.proofs.lemmas.List.Sums.{fold_push, sum_by-append}
use Rattle.pol_objects.specs.Machine.{object_next}
use Rattle.pol_objects.specs.declared.action.ObjectAction.{ObjectAction}
use Rattle.pol_objects.specs.declared.object_state.ObjectState.{ObjectState}
use Rattle.pol_records.specs.Holding.{RisesBy}
use Rattle.pol_object_store.specs.ObjectHistory.{no_objects, object_state_after, object_state_at}
use Rattle.pol_object_store.specs.ObjectRecords.{AreFormed, AreForms, object_bodies, object_changes, object_records, object_size_of}
use Rattle.pol_object_store.specs.declared.entry.ObjectEntry.{ObjectEntry}

pub empty_is : (state : ObjectState) → state.objects ≡ [] → state.counted ≡ 0 → state ≡ no_objects
empty_is state objects counted = λ i. record { objects = objects i; counted = counted i }

pub no_records : (base : ObjectState) (history : List ObjectEntry) → history ≡ [] → object_records base history ≡ []
unfolding object_records
no_records base history none = ap (object_records base) none

pub records_push : (base : ObjectState) (history : List ObjectEntry) (entry : ObjectEntry)
    → object_records base (history ++ entry ∷ []) ≡ object_records base history ++ object_bodies (object_changes (object_state_at base history) entry.action)
unfolding object_records object_state_at
records_push base [] entry = append-nil (object_bodies (object_changes base entry.action))
records_push base (first ∷ history) entry =
    ap (λ (l : List (List ℕ)). object_bodies (object_changes base first.action) ++ l) (records_push (object_state_after base first) history entry)
    ∙ sym (append_assoc (object_bodies (object_changes base first.action)) (object_records (object_state_after base first) history)
    (object_bodies (object_changes (object_state_at (object_state_after base first) history) entry.action)))

pub formed_at : (base : ObjectState) (history : List ObjectEntry) (entry : ObjectEntry) → AreFormed base history
    → AreForms (object_changes (object_state_at base history) entry.action) → AreFormed base (history ++ entry ∷ [])
unfolding AreFormed object_state_at
formed_at base [] entry formed one = (one, tt)
formed_at base (first ∷ history) entry formed one = (formed.0, formed_at (object_state_after base first) history entry formed.1 one)

-- an entry more, once room was made for it
module _ (base state : ObjectState) (history reserved items : List ObjectEntry) (number access : ℕ) (action : ObjectAction) (state_is : state ≡ object_state_at base history)
    (same : reserved ≡ history) (pushed : items ≡ reserved ++ record { number = number; access = access; action = action } ∷ []) where
  abbrev entry : ObjectEntry
  entry = record { number = number; access = access; action = action }

  pub items_are : items ≡ history ++ entry ∷ []
  items_are = pushed ∙ ap (λ (l : List ObjectEntry). l ++ entry ∷ []) same

  pub goes_on : (next : ObjectState) → next ≡ object_next state action → next ≡ object_state_at base items
  unfolding object_state_at
  goes_on next next_is =
      next_is ∙ ap (λ state. object_next state action) state_is ∙ sym (fold_push object_state_after base history entry) ∙ ap (fold object_state_after base) (sym items_are)

  pub size_push : object_size_of (object_records base items) ≡ object_size_of (object_records base history) + object_size_of (object_bodies (object_changes state action))
  size_push =
      ap (λ (l : List ObjectEntry). object_size_of (object_records base l)) items_are ∙ ap object_size_of (records_push base history entry)
      ∙ sum_by-append (λ (body : List ℕ). 9 + length body) (object_records base history) (object_bodies (object_changes (object_state_at base history) action))
      ∙ ap (λ (s : ObjectState). object_size_of (object_records base history) + object_size_of (object_bodies (object_changes s action))) (sym state_is)

  pub formed_push : AreFormed base history → AreForms (object_changes state action) → AreFormed base items
  formed_push formed one =
      subst (λ (l : List ObjectEntry). AreFormed base l) (sym items_are)
      (formed_at base history entry formed (subst (λ (s : ObjectState). AreForms (object_changes s action)) state_is one))

pub rises_still : (many old mid new : ℕ) → mid ≤ new → RisesBy many old mid → RisesBy many old new
rises_still many old mid new more (inl enough) = inl (omega (arith, more, enough))
rises_still many old mid new more (inr last) = inr (omega (arith, more, last))

-- a store that was made or opened
pub record Begins (base state : ObjectState) (history : List ObjectEntry) (marks : List ℕ) (opening faults gate : ℕ) : Type 0 where
  pub state_is : state ≡ object_state_at base history
  pub marked : RisesBy (length marks) opening faults
  pub within : object_size_of (object_records base history) ≤ gate + 1
  pub formed : AreFormed base history

pub begins : (base state : ObjectState) (history : List ObjectEntry) (marks : List ℕ) (opening faults gate : ℕ) → state ≡ base → history ≡ [] → marks ≡ [] → opening ≤ faults
    → Begins base state history marks opening faults gate
unfolding object_state_at AreFormed
begins base state history marks opening faults gate same none unmarked counts =
    let many : length marks ≡ 0 = ap length unmarked in
    let size : object_size_of (object_records base history) ≡ 0 = ap object_size_of (no_records base history none) in
    record {
      state_is = same ∙ ap (fold object_state_after base) (sym none);
      marked = inl (omega arith);
      within = omega arith;
      formed = subst (λ (l : List ObjectEntry). AreFormed base l) (sym none) tt;
    }
