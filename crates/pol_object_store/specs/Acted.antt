-- What an action on objects tells of the log.
use Rattle.std.specs.Prelude.{◌≡◌, ◌≢◌, ◌<◌, ◌≤◌, ◌-◌, ◌^◌, ◌⊎◌, ℕ, List, [], ◌∷◌, ◌++◌, length, map, min}
use Rattle.pol_codec.specs.declared.objects.ObjectChange.{ObjectChange}
use Rattle.pol_journal.specs.Journal.{HasFailed, IsReady}
use Rattle.pol_objects.specs.Machine.{object_reply}
use Rattle.pol_objects.specs.declared.action.ObjectAction.{ObjectAction}
use Rattle.pol_objects.specs.declared.reply.ObjectReply.{ObjectReply}
use Rattle.pol_object_store.specs.ObjectHistory.{ObjectLog, object_state_of}
use Rattle.pol_object_store.specs.ObjectRecords.{object_bodies, object_changes, object_end_after, object_end_with, object_opened}
use Rattle.pol_object_store.specs.declared.acted.Acted.{Acted}
use Rattle.pol_object_store.specs.declared.acted.Acted.TheVariants.{Done, JournalFull, Unknown, DiskFault, OutOfMemory}
use Rattle.pol_records.specs.Holding.{Lost, lost_behind}
use Rattle.pol_wire.specs.Faults.{Rises}

-- the action was done: it stands last in the history, its reply is that of the object machine in the state before it, and
-- the journal has room for its change
pub record IsDone {D : Type 0} (old new : ObjectLog D) (number access : ℕ) (action : ObjectAction) (place : ℕ) (reply : ObjectReply) : Type 0 where
  pub place_is : place ≡ length old.history
  pub enters : new ≡ record old { history = old.history ++ (record { number = number; access = access; action = action }) ∷ []; journal = new.journal }
  pub replied : reply ≡ object_reply (object_state_of old) action
  pub fits : (object_changes (object_state_of old) action ≡ []) ⊎ (object_end_with (object_opened old) old.base old.history action ≤ 2 ^ 40)

-- the action's change would take the journal past its bound, and no append that failed is left unrepaired
pub record IsJournalFull {D : Type 0} (old new : ObjectLog D) (action : ObjectAction) (end wanted : ℕ) : Type 0 where
  pub same : new ≡ record old { journal = new.journal }
  pub some : object_changes (object_state_of old) action ≢ []
  pub end_is : end ≡ object_end_after (object_opened old) old.base old.history
  pub wanted_is : wanted ≡ min (object_end_with (object_opened old) old.base old.history action) (2 ^ 64 - 1)
  pub above : 2 ^ 40 < object_end_with (object_opened old) old.base old.history action
  pub ready : IsReady new.journal

-- the disk failed while the action's change was to be written, which a mark of the pass tells
pub record IsMarked {D : Type 0} (fault_count : D → ℕ) (old new : ObjectLog D) (number : ℕ) (action : ObjectAction) : Type 0 where
  pub marked : new ≡ record old { marks = old.marks ++ number ∷ []; journal = new.journal }
  pub some : object_changes (object_state_of old) action ≢ []
  pub caused : Rises (fault_count old.journal.disk) (fault_count new.journal.disk)

-- what each answer tells of the log before and after: where the disk failed while the change was written, the journal had
-- room for it
abbrev pub Acts : {D : Type 0} → (D → ℕ) → ObjectLog D → ObjectLog D → ℕ → ℕ → ObjectAction → Acted → Type 0
Acts fault_count old new number access action (Done place reply) = IsDone old new number access action place reply
Acts fault_count old new number access action (JournalFull end wanted) = IsJournalFull old new action end wanted
Acts fault_count old new number access action Unknown =
    IsMarked fault_count old new number action × (object_end_with (object_opened old) old.base old.history action ≤ 2 ^ 40)
Acts fault_count old new number access action DiskFault = IsMarked fault_count old new number action × HasFailed old.journal
Acts fault_count old new number access action OutOfMemory = new ≡ old

-- the appends that failed, after an answer: that of the action's change is one more where its outcome is unknown
abbrev pub lost_after : Acted → List (List ℕ) → List ObjectChange → List Lost → List Lost
lost_after (Done place reply) written changes lost = lost
lost_after (JournalFull end wanted) written changes lost = lost
lost_after Unknown written changes lost = lost ++ map (lost_behind written) (object_bodies changes)
lost_after DiskFault written changes lost = lost
lost_after OutOfMemory written changes lost = lost
