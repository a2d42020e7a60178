-- What a step tells of what the pass has seen.
use Rattle.std.specs.Prelude.{⊤, ◌≡◌, ◌≢◌, ◌<◌, ◌≤◌, ◌+◌, ◌-◌, ◌^◌, ◌⊎◌, ℕ, List, [], ◌∷◌, ◌++◌, length, min}
use Rattle.pol_journal.specs.Journal.{HasFailed, IsReady, JournalState}
use Rattle.pol_kept.specs.Machine.{reply_of}
use Rattle.pol_commands.specs.declared.command.Command.{Command}
use Rattle.pol_commands.specs.declared.reply.Refusal.TheVariants as refusal
use Rattle.pol_commands.specs.declared.reply.Reply.{Reply}
use Rattle.pol_commands.specs.declared.reply.Reply.TheVariants.{Refused}
use Rattle.pol_kept.specs.History.{changes_of, end_after, end_with, state_at}
use Rattle.pol_kept.specs.declared.entry.Entry.{Entry}
use Rattle.pol_kept.specs.declared.stepped.Stepped.{Stepped}
use Rattle.pol_kept.specs.declared.stepped.Stepped.TheVariants.{Done, RunFull, JournalFull, Unknown, DiskFault, OutOfMemory}
use Rattle.pol_shared.specs.Seen.{HasSeen, Seen, Stays}

-- the journal has room for the changes of a command behind a history, or there are none
abbrev pub HasSpace : Seen → List Entry → Command → Type 0
HasSpace seen before command =
    (changes_of (state_at seen.base before) command ≡ []) ⊎ (end_with seen.opened seen.base before command ≤ 2 ^ 40)

-- the command was done: what the pass had seen goes on by entries of others and then by the command, and its reply is
-- that in the state before it
pub record IsDoneIn {Out : Type 0} (Renders : Reply → Out → Type 0) (old new : Seen) (command : Command) (place : ℕ) (out : Out) : Type 0 where
  pub before : List Entry
  pub seen : HasSeen old (record old { front = before }) []
  pub place_is : place ≡ length before
  pub enters : new ≡ record old { front = before ++ (record { number = old.number; command = command }) ∷ [] }
  pub has_room : (state_at old.base before).charged + command.charge ≤ 2 ^ 30
  pub has_space : HasSpace old before command
  pub rendered : Renders (reply_of (state_at old.base before) command) out

-- the run was full at the end of what the pass has seen then, and it entered nothing
pub record IsFullIn {Out : Type 0} (Renders : Reply → Out → Type 0) (old new : Seen) (command : Command) (charged charge : ℕ) (out : Out) : Type 0 where
  pub stays : Stays old new
  pub charged_is : charged ≡ (state_at new.base new.front).charged
  pub charge_is : charge ≡ command.charge
  pub full : 2 ^ 30 < charged + charge
  pub rendered : Renders (Refused (refusal.RunFull charged charge)) out

-- at the end of what the pass has seen then the command has changes, with which the journal would reach too far
pub record IsJournalFullIn (old new : Seen) (command : Command) (end wanted : ℕ) : Type 0 where
  pub stays : Stays old new
  pub some : changes_of (state_at new.base new.front) command ≢ []
  pub end_is : end ≡ end_after new.opened new.base new.front
  pub wanted_is : wanted ≡ min (end_with new.opened new.base new.front command) (2 ^ 64 - 1)
  pub above : 2 ^ 40 < end_with new.opened new.base new.front command

-- at the end of what the pass has seen then the command has changes, and the disk failed: the pass has a mark more
pub record IsMarkedIn (old new : Seen) (command : Command) : Type 0 where
  pub seen : HasSeen old new []
  pub some : changes_of (state_at new.base new.front) command ≢ []
  pub marked : new.failed ≡ old.failed + 1

-- the same, where the journal had room for the changes
pub record IsUnknownIn (old new : Seen) (command : Command) : Type 0 where
  pub seen : HasSeen old new []
  pub some : changes_of (state_at new.base new.front) command ≢ []
  pub marked : new.failed ≡ old.failed + 1
  pub within : end_with new.opened new.base new.front command ≤ 2 ^ 40

-- what each answer tells of what the pass had seen before and has seen after
abbrev pub StepsIn : {Out : Type 0} → (Reply → Out → Type 0) → Seen → Seen → Command → Stepped Out → Type 0
StepsIn Renders old new command (Done place out) = IsDoneIn Renders old new command place out
StepsIn Renders old new command (RunFull charged charge out) = IsFullIn Renders old new command charged charge out
StepsIn Renders old new command (JournalFull end wanted) = IsJournalFullIn old new command end wanted
StepsIn Renders old new command Unknown = IsUnknownIn old new command
StepsIn Renders old new command DiskFault = IsMarkedIn old new command
StepsIn Renders old new command OutOfMemory = Stays old new

-- what each answer tells of the journal before and after: nothing was written where the run is full or memory is wanting.
-- Where it would reach too far, no append that failed is left unrepaired. A fault of the disk is told where an append had
-- failed before
abbrev pub WritesIn : {D Out : Type 0} → JournalState D → JournalState D → Stepped Out → Type 0
WritesIn old new (Done place out) = ⊤
WritesIn old new (RunFull charged charge out) = new ≡ old
WritesIn old new (JournalFull end wanted) = IsReady new
WritesIn old new Unknown = ⊤
WritesIn old new DiskFault = HasFailed old
WritesIn old new OutOfMemory = new ≡ old
