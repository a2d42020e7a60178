-- What a crash at any moment since the opening may have left of a catalogue's journal.
use Rattle.std.specs.Prelude.{ℕ, ◌≡◌, List, [], ◌∷◌, Option}
use Rattle.std.specs.List.{AllByRecursion}
use mathlib.Core.List.{IsPrefix}
use Rattle.pol_commands.specs.declared.command.Command.{Command}
use Rattle.pol_journal.specs.Journal.{JournalState}
use Rattle.pol_records.specs.Holding.{Holds, Lost}
use Rattle.pol_state.specs.Rows.{Rows}
use Rattle.pol_kept.specs.History.{AreFormed, IsFormed, bodies_of, changes_of, records, state_at}
use Rattle.pol_kept.specs.declared.entry.Entry.{Entry}

-- an append that failed was that of a command's changes, which have a form, behind the records of some first entries of
-- the history
pub record IsLostCommand (base : Rows) (history : List Entry) (one : Lost) : Type 0 where
  pub front : List Entry
  pub first : IsPrefix front history
  pub command : Command
  pub behind : one.behind ≡ records base front
  pub body : bodies_of (changes_of (state_at base front) command) ≡ one.body ∷ []
  pub formed : IsFormed (state_at base front) command

-- The journal has the opening bodies and then the records of the history, each of which can be read back and leads to a
-- sound state. Each image at each moment since the opening
-- stands for the opening bodies and some first ones of the records, or for those that stood before an append that failed
-- with its body, which is the form of a command's changes in its place; and no more of them failed than the disk's count of
-- faults rose
pub record KeepsImages {D : Type 0} (seen : D → Option (List ℕ)) (may_leave : D → List ℕ → Type 0) (clock : D → ℕ) (left_since : D → ℕ → List ℕ → Type 0) (fault_count : D → ℕ) (opening : List (List ℕ)) (base : Rows) (history : List Entry) (journal : JournalState D) : Type 0 where
  pub lost : List Lost
  pub holds : Holds seen may_leave clock left_since fault_count opening (records base history) lost journal
  pub commands : AllByRecursion (IsLostCommand base history) lost
  pub formed : AreFormed base history
