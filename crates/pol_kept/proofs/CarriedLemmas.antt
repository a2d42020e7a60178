-- What the carrying out of a command leaves, over the parts of a store.
use Rattle.std.proofs.Common.{◌≡◌, ◌≢◌, Option, ℕ, ◌+◌, ◌≤◌, List, [], ◌∷◌, ◌++◌, length, sym, ◌∙◌, ap, subst}
use Rattle.pol_commands.specs.declared.command.Command.{Command}
use Rattle.pol_content.specs.declared.change.Change.{Change}
use Rattle.pol_journal.specs.Journal.{JournalState}
use Rattle.pol_records.specs.Holding.{Holds, Lost, RisesBy}
use Rattle.pol_records.specs.declared.unwritten.Unwritten.{Unwritten}
use Rattle.pol_state.specs.Rows.{Rows}
use Rattle.pol_kept.specs.History.{IsFormed, Log, bodies_of, changes_of, records, size_of, state_of}
use Rattle.pol_kept.specs.Stages.{GoesOn, IsLeftOut, IsWritten, lost_undone, marks_by, undone_by}
use Rattle.pol_kept.specs.declared.entry.Entry.{Entry}
use Rattle.pol_kept.proofs.GoesOnLemmas.{entered-goes, entered-holds, entered-rises, entered-within, marked-goes, marked-holds}

-- a log of these parts
abbrev pub log_of : {D : Type 0} → Rows → List Entry → List ℕ → JournalState D → Log D
log_of base history marks journal = record { base = base; history = history; marks = marks; journal = journal }

-- one body isn't none
no-body : (body : List ℕ) → body ∷ [] ≢ []
no-body body is = absurd (cc)

module _ {D : Type 0} (seen : D → Option (List ℕ)) (may_leave : D → List ℕ → Type 0) (clock : D → ℕ) (left_since : D → ℕ → List ℕ → Type 0) (fault_count : D → ℕ) where
  abbrev Held : List (List ℕ) → List (List ℕ) → List Lost → JournalState D → Type 0
  Held = Holds seen may_leave clock left_since fault_count

  abbrev Goes : Log D → Log D → Type 0
  Goes old new = GoesOn seen may_leave clock left_since fault_count old new

  module _ (base : Rows) (history : List Entry) (marks : List ℕ) (journal after : JournalState D) (log : Log D) (view_is : log_of base history marks journal ≡ log)
      (number : ℕ) (command : Command) (changes : List Change) (is : changes ≡ changes_of (state_of log) command)
      (within : size_of (records base history) ≤ journal.gate + 1) (counts : fault_count journal.disk ≤ fault_count after.disk)
      (bodies : List (List ℕ)) (bodies_are : bodies ≡ bodies_of changes) where
    abbrev old : Log D
    old = log_of base history marks journal

    changes_are : changes ≡ changes_of (state_of old) command
    changes_are = is ∙ ap (λ (log : Log D). changes_of (state_of log) command) (sym view_is)

    formed_old : IsFormed (state_of log) command → IsFormed (state_of old) command
    formed_old = subst (λ (log : Log D). IsFormed (state_of log) command) (sym view_is)

    -- the command was entered
    module _ (now : List Entry) (marked : List ℕ) (now_is : now ≡ history ++ (record { number = number; command = command }) ∷ []) (marked_is : marked ≡ marks)
        (written : IsWritten seen may_leave clock left_since fault_count bodies journal after) where
      wrote : IsWritten seen may_leave clock left_since fault_count (bodies_of changes) journal after
      wrote = subst (λ (bodies : List (List ℕ)). IsWritten seen may_leave clock left_since fault_count bodies journal after) bodies_are written

      abbrev next : Log D
      next = log_of base (history ++ (record { number = number; command = command }) ∷ []) marks after

      next_is : next ≡ log_of base now marked after
      next_is = λ i. log_of base (sym now_is i) (sym marked_is i) after

      pub carried-within : size_of (records base now) ≤ after.gate + 1
      carried-within =
          subst (λ (entries : List Entry). size_of (records base entries) ≤ after.gate + 1) (sym now_is)
          (entered-within seen may_leave clock left_since fault_count old number command changes changes_are within after counts wrote)

      pub carried-rises : RisesBy (length marks) journal.opening.faults (fault_count journal.disk) → RisesBy (length marked) after.opening.faults (fault_count after.disk)
      carried-rises was =
          subst (λ (marks : List ℕ). RisesBy (length marks) after.opening.faults (fault_count after.disk)) (sym marked_is)
          (entered-rises seen may_leave clock left_since fault_count old number command changes changes_are within after counts wrote was)

      -- what was lost is lost, and nothing more
      pub carried-holds : (opening : List (List ℕ)) (lost : List Lost) → Held opening (records log.base log.history) lost log.journal → Held opening (records base now) lost after
      carried-holds opening lost =
          subst (λ (from : Log D). Held opening (records from.base from.history) lost from.journal → Held opening (records base now) lost after) view_is (λ held.
          subst (λ (entries : List Entry). Held opening (records base entries) lost after) (sym now_is)
          (entered-holds seen may_leave clock left_since fault_count old number command changes changes_are within after counts wrote opening lost held))

      pub carried-goes : IsFormed (state_of log) command → Goes log (log_of base now marked after)
      carried-goes formed =
          subst (λ (from : Log D). Goes from (log_of base now marked after)) view_is
          (subst (λ (to : Log D). Goes old to) next_is
          (entered-goes seen may_leave clock left_since fault_count old number command changes changes_are within after counts wrote (formed_old formed)))

      -- where there were no changes the journal stays
      pub carried-idle : changes ≡ [] → after ≡ log.journal
      carried-idle none = wrote.idle (ap bodies_of none) ∙ ap (λ (log : Log D). log.journal) view_is

    -- its record wasn't written
    module _ (why : Unwritten) (now : List Entry) (marked : List ℕ) (now_is : now ≡ history) (marked_is : marked ≡ marks_by why number marks)
        (left : IsLeftOut seen may_leave clock left_since fault_count bodies journal after why) where
      out : IsLeftOut seen may_leave clock left_since fault_count (bodies_of changes) journal after why
      out = subst (λ (bodies : List (List ℕ)). IsLeftOut seen may_leave clock left_since fault_count bodies journal after why) bodies_are left

      abbrev same : Log D
      same = log_of base history (marks_by why number marks) after

      same_is : same ≡ log_of base now marked after
      same_is = λ i. log_of base (sym now_is i) (sym marked_is i) after

      -- what was lost is lost, and its body too where that is unknown
      pub left-holds : (opening : List (List ℕ)) (lost : List Lost) → Held opening (records log.base log.history) lost log.journal
          → Held opening (records base now) (lost_undone (undone_by why) (records log.base log.history) changes lost) after
      left-holds opening lost =
          subst (λ (from : Log D). Held opening (records from.base from.history) lost from.journal → Held opening (records base now) (lost_undone (undone_by why) (records from.base from.history) changes lost) after) view_is (λ held.
          subst (λ (entries : List Entry). Held opening (records base entries) (lost_undone (undone_by why) (records base history) changes lost) after) (sym now_is)
          (marked-holds seen may_leave clock left_since fault_count old number command changes changes_are within after counts why out opening lost held))

      pub left-goes : IsFormed (state_of log) command → Goes log (log_of base now marked after)
      left-goes formed =
          subst (λ (from : Log D). Goes from (log_of base now marked after)) view_is
          (subst (λ (to : Log D). Goes old to) same_is
          (marked-goes seen may_leave clock left_since fault_count old number command changes changes_are within after counts why out (formed_old formed)))

      -- so there were changes
      pub left-idle : changes ≡ [] → after ≡ log.journal
      left-idle none = absurd (no-body out.body (sym out.one ∙ ap bodies_of none))
