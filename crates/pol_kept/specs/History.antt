-- Histories: the commands that were done since an opening, the states that they led to, and the records of their changes.
use Rattle.std.specs.Prelude.{ℕ, ◌≢◌, ◌+◌, ◌-◌, List, [], ◌∷◌, ◌++◌, length, ⊤}
use Rattle.std.specs.List.{fold, sum_by}
use Rattle.pol_changecodec.specs.Change.{changes as changes_form}
use Rattle.pol_commands.specs.declared.command.Command.{Command}
use Rattle.pol_content.specs.declared.change.Change.{Change}
use Rattle.pol_journal.specs.Journal.{JournalState}
use Rattle.pol_machine.specs.Machine.{next_state}
use Rattle.pol_state.specs.Changes.{changes_between}
use Rattle.pol_state.specs.Rows.{Rows}
use Rattle.pol_state.specs.Sound.{IsSound}
use Rattle.pol_kept.specs.declared.entry.Entry.{Entry}

-- the state at the opening, the history since, the number of the pass of each call that the disk failed, and the journal
pub record Log (D : Type 0) : Type 0 where
  pub base : Rows
  pub history : List Entry
  pub marks : List ℕ
  pub journal : JournalState D

-- the state after an entry
abbrev pub state_after : Rows → Entry → Rows
state_after s entry = next_state s entry.command

-- the state after these entries
unfoldable pub state_at : Rows → List Entry → Rows
state_at base entries = fold state_after base entries

-- the state at the end of the history
abbrev pub state_of : {D : Type 0} → Log D → Rows
state_of log = state_at log.base log.history

-- the changes that a command makes
abbrev pub changes_of : Rows → Command → List Change
changes_of s command = changes_between s (next_state s command)

-- the bodies of the records of changes: none where there is no change, and else their form
abbrev pub bodies_of : List Change → List (List ℕ)
bodies_of [] = []
bodies_of (change ∷ changes) = changes_form.write (change ∷ changes) ∷ []

-- the bodies of the records of a history, from a state on
unfoldable pub records : Rows → List Entry → List (List ℕ)
records s [] = []
records s (entry ∷ entries) = bodies_of (changes_of s entry.command) ++ records (state_after s entry) entries

-- what is written of a command's changes is read back, and they lead to a sound state
pub record IsFormed (s : Rows) (command : Command) : Type 0 where
  pub form : changes_of s command ≢ [] → ∥ changes_form.holds (changes_of s command) ∥₁
  pub sound : IsSound (next_state s command)

-- so it is with each command of a history, from a state on
unfoldable pub AreFormed : Rows → List Entry → Type 0
AreFormed s [] = ⊤
AreFormed s (entry ∷ entries) = IsFormed s entry.command × AreFormed (state_after s entry) entries

-- the bytes that the records of bodies take
abbrev pub size_of : List (List ℕ) → ℕ
size_of bodies = sum_by (λ body. 9 + length body) bodies

-- where the journal ended at the opening
abbrev pub opened_of : {D : Type 0} → Log D → ℕ
opened_of log = (log.journal.gate + 1) - size_of (records log.base log.history)

-- where a journal that ended at this place at the opening ends after a history
abbrev pub end_after : ℕ → Rows → List Entry → ℕ
end_after opened base history = opened + size_of (records base history)

-- and where it would end with the changes of a command more
abbrev pub end_with : ℕ → Rows → List Entry → Command → ℕ
end_with opened base history command =
    end_after opened base history + size_of (bodies_of (changes_of (state_at base history) command))
