-- What a step tells of the log.
use Rattle.std.specs.Prelude.{◌≡◌, ◌≢◌, ◌<◌, ◌≤◌, ◌+◌, ◌-◌, ◌^◌, ◌⊎◌, ℕ, List, [], ◌∷◌, ◌++◌, length, map, min}
use Rattle.pol_commands.specs.declared.command.Command.{Command}
use Rattle.pol_commands.specs.declared.reply.Refusal.TheVariants as refusal
use Rattle.pol_commands.specs.declared.reply.Reply.{Reply}
use Rattle.pol_commands.specs.declared.reply.Reply.TheVariants.{Refused}
use Rattle.pol_content.specs.declared.change.Change.{Change}
use Rattle.pol_journal.specs.Journal.{HasFailed, IsReady}
use Rattle.pol_machine.specs.Machine.{reply_of}
use Rattle.pol_kept.specs.History.{Log, bodies_of, changes_of, end_after, end_with, opened_of, state_of}
use Rattle.pol_kept.specs.declared.stepped.Stepped.{Stepped}
use Rattle.pol_kept.specs.declared.stepped.Stepped.TheVariants.{Done, RunFull, JournalFull, Unknown, DiskFault, OutOfMemory}
use Rattle.pol_records.specs.Holding.{Lost, lost_behind}
use Rattle.pol_wire.specs.Faults.{Rises}

-- the command was done: it stands last in the history, its reply is that in the state before it, and the journal has room
-- for its changes
pub record IsDone {D Out : Type 0} (Renders : Reply → Out → Type 0) (old new : Log D) (number : ℕ) (command : Command) (place : ℕ) (out : Out) : Type 0 where
  pub place_is : place ≡ length old.history
  pub enters : new ≡ record old { history = old.history ++ (record { number = number; command = command }) ∷ []; journal = new.journal }
  pub has_room : (state_of old).charged + command.charge ≤ 2 ^ 30
  pub fits : (changes_of (state_of old) command ≡ []) ⊎ (end_with (opened_of old) old.base old.history command ≤ 2 ^ 40)
  pub rendered : Renders (reply_of (state_of old) command) out

-- the run was full
pub record IsFull {D Out : Type 0} (Renders : Reply → Out → Type 0) (old new : Log D) (command : Command) (charged charge : ℕ) (out : Out) : Type 0 where
  pub same : new ≡ old
  pub charged_is : charged ≡ (state_of old).charged
  pub charge_is : charge ≡ command.charge
  pub full : 2 ^ 30 < charged + charge
  pub rendered : Renders (Refused (refusal.RunFull charged charge)) out

-- the command's changes would take the journal past its bound, and no append that failed is left unrepaired
pub record IsJournalFull {D : Type 0} (old new : Log D) (command : Command) (end wanted : ℕ) : Type 0 where
  pub same : new ≡ record old { journal = new.journal }
  pub some : changes_of (state_of old) command ≢ []
  pub end_is : end ≡ end_after (opened_of old) old.base old.history
  pub wanted_is : wanted ≡ min (end_with (opened_of old) old.base old.history command) (2 ^ 64 - 1)
  pub above : 2 ^ 40 < end_with (opened_of old) old.base old.history command
  pub ready : IsReady new.journal

-- the disk failed while changes of the command were to be written, which a mark of the pass tells
pub record IsMarked {D : Type 0} (fault_count : D → ℕ) (old new : Log D) (number : ℕ) (command : Command) : Type 0 where
  pub marked : new ≡ record old { marks = old.marks ++ number ∷ []; journal = new.journal }
  pub some : changes_of (state_of old) command ≢ []
  pub caused : Rises (fault_count old.journal.disk) (fault_count new.journal.disk)

-- and the journal had room for them
pub record IsUnknown {D : Type 0} (fault_count : D → ℕ) (old new : Log D) (number : ℕ) (command : Command) : Type 0 where
  pub is_marked : IsMarked fault_count old new number command
  pub within : end_with (opened_of old) old.base old.history command ≤ 2 ^ 40

-- what each answer tells of the log before and after
abbrev pub Steps : {D Out : Type 0} → (D → ℕ) → (Reply → Out → Type 0) → Log D → Log D → ℕ → Command → Stepped Out → Type 0
Steps fault_count Renders old new number command (Done place out) = IsDone Renders old new number command place out
Steps fault_count Renders old new number command (RunFull charged charge out) = IsFull Renders old new command charged charge out
Steps fault_count Renders old new number command (JournalFull end wanted) = IsJournalFull old new command end wanted
Steps fault_count Renders old new number command Unknown = IsUnknown fault_count old new number command
Steps fault_count Renders old new number command DiskFault = IsMarked fault_count old new number command × HasFailed old.journal
Steps fault_count Renders old new number command OutOfMemory = new ≡ old

-- the appends that failed, after an answer: that of the command's changes is one more where its outcome is unknown
abbrev pub lost_after : {Out : Type 0} → Stepped Out → List (List ℕ) → List Change → List Lost → List Lost
lost_after (Done place out) written changes lost = lost
lost_after (RunFull charged charge out) written changes lost = lost
lost_after (JournalFull end wanted) written changes lost = lost
lost_after Unknown written changes lost = lost ++ map (lost_behind written) (bodies_of changes)
lost_after DiskFault written changes lost = lost
lost_after OutOfMemory written changes lost = lost
