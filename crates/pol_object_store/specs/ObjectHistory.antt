-- Histories of actions on objects, and the states that they led to.
use Rattle.std.specs.Prelude.{ℕ, List, []}
use Rattle.std.specs.List.{fold}
use Rattle.pol_journal.specs.Journal.{JournalState}
use Rattle.pol_objects.specs.Machine.{object_next}
use Rattle.pol_objects.specs.declared.object_state.ObjectState.{ObjectState}
use Rattle.pol_object_store.specs.declared.entry.ObjectEntry.{ObjectEntry}

-- the state at the opening, the history since, the number of the pass of each call that the disk failed, and the journal
pub record ObjectLog (D : Type 0) : Type 0 where
  pub base : ObjectState
  pub history : List ObjectEntry
  pub marks : List ℕ
  pub journal : JournalState D

-- no objects, and none counted
abbrev pub no_objects : ObjectState
no_objects = record { objects = []; counted = 0 }

-- the state after an entry
abbrev pub object_state_after : ObjectState → ObjectEntry → ObjectState
object_state_after state entry = object_next state entry.action

-- the state after these entries
unfoldable pub object_state_at : ObjectState → List ObjectEntry → ObjectState
object_state_at base entries = fold object_state_after base entries

-- the state at the end of the history
abbrev pub object_state_of : {D : Type 0} → ObjectLog D → ObjectState
object_state_of log = object_state_at log.base log.history
