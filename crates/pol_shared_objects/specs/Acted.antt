-- What an action on objects tells of what the pass has seen.
use Rattle.std.specs.Prelude.{⊤, ◌≡◌, ◌≢◌, ◌<◌, ◌≤◌, ◌+◌, ◌-◌, ◌^◌, ◌⊎◌, ℕ, List, [], ◌∷◌, ◌++◌, length, min}
use Rattle.pol_journal.specs.Journal.{HasFailed, IsReady, JournalState}
use Rattle.pol_objects.specs.Machine.{object_reply}
use Rattle.pol_objects.specs.declared.action.ObjectAction.{ObjectAction}
use Rattle.pol_objects.specs.declared.reply.ObjectReply.{ObjectReply}
use Rattle.pol_object_store.specs.ObjectHistory.{object_state_at}
use Rattle.pol_object_store.specs.ObjectRecords.{object_changes, object_end_after, object_end_with}
use Rattle.pol_object_store.specs.declared.acted.Acted.{Acted}
use Rattle.pol_object_store.specs.declared.acted.Acted.TheVariants.{Done, JournalFull, Unknown, DiskFault, OutOfMemory}
use Rattle.pol_object_store.specs.declared.entry.ObjectEntry.{ObjectEntry}
use Rattle.pol_shared_objects.specs.SeenObjects.{HasSeenObjects, ObjectsStay, SeenObjects}

-- the journal has room for the change of an action behind a history, or there is none
abbrev pub HasObjectSpace : SeenObjects → List ObjectEntry → ObjectAction → Type 0
HasObjectSpace seen before action =
    (object_changes (object_state_at seen.base before) action ≡ [])
    ⊎ (object_end_with seen.opened seen.base before action ≤ 2 ^ 40)

-- the action was done: what the pass had seen goes on by entries of others and then by the action, which names the place
-- of the access that allowed it; its reply is that of the object machine in the state before it
pub record IsActedIn (old new : SeenObjects) (access : ℕ) (action : ObjectAction) (place : ℕ) (reply : ObjectReply) : Type 0 where
  pub before : List ObjectEntry
  pub seen : HasSeenObjects old (record old { front = before }) []
  pub place_is : place ≡ length before
  pub enters : new ≡ record old { front = before ++ (record { number = old.number; access = access; action = action }) ∷ [] }
  pub has_space : HasObjectSpace old before action
  pub replied : reply ≡ object_reply (object_state_at old.base before) action

-- at the end of what the pass has seen then the action makes a change, with which the journal would reach too far
pub record IsObjectJournalFullIn (old new : SeenObjects) (action : ObjectAction) (end wanted : ℕ) : Type 0 where
  pub stays : ObjectsStay old new
  pub some : object_changes (object_state_at new.base new.front) action ≢ []
  pub end_is : end ≡ object_end_after new.opened new.base new.front
  pub wanted_is : wanted ≡ min (object_end_with new.opened new.base new.front action) (2 ^ 64 - 1)
  pub above : 2 ^ 40 < object_end_with new.opened new.base new.front action

-- at the end of what the pass has seen then the action makes a change, and the disk failed: the pass has a mark more
pub record IsObjectMarkedIn (old new : SeenObjects) (action : ObjectAction) : Type 0 where
  pub seen : HasSeenObjects old new []
  pub some : object_changes (object_state_at new.base new.front) action ≢ []
  pub marked : new.failed ≡ old.failed + 1

-- what each answer tells of what the pass had seen before and has seen after: where the disk failed while the change was
-- written, the journal had room for it
abbrev pub ActsIn : SeenObjects → SeenObjects → ℕ → ObjectAction → Acted → Type 0
ActsIn old new access action (Done place reply) = IsActedIn old new access action place reply
ActsIn old new access action (JournalFull end wanted) = IsObjectJournalFullIn old new action end wanted
ActsIn old new access action Unknown =
    IsObjectMarkedIn old new action × (object_end_with new.opened new.base new.front action ≤ 2 ^ 40)
ActsIn old new access action DiskFault = IsObjectMarkedIn old new action
ActsIn old new access action OutOfMemory = ObjectsStay old new

-- and of an action that only looks, which writes nothing
abbrev pub LooksIn : SeenObjects → SeenObjects → ℕ → ObjectAction → Acted → Type 0
LooksIn old new access action (Done place reply) = IsActedIn old new access action place reply
LooksIn old new access action (JournalFull end wanted) = ⊥
LooksIn old new access action Unknown = ⊥
LooksIn old new access action DiskFault = ⊥
LooksIn old new access action OutOfMemory = ObjectsStay old new

-- what each answer tells of the journal before and after: nothing was written where memory is wanting, a fault of the
-- disk is told where an append had failed before, and no append that failed is left unrepaired where the journal is full
abbrev pub RecordsIn : {D : Type 0} → JournalState D → JournalState D → Acted → Type 0
RecordsIn old new (Done place reply) = ⊤
RecordsIn old new (JournalFull end wanted) = IsReady new
RecordsIn old new Unknown = ⊤
RecordsIn old new DiskFault = HasFailed old
RecordsIn old new OutOfMemory = new ≡ old
