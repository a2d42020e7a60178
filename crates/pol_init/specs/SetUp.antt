-- The state that commands set up, and why none is.
use Rattle.std.specs.Prelude.{◌≡◌, ℕ, List, [], ◌∷◌, ◌++◌, length, ⊤}
use Rattle.std.specs.List.{fold}
use Rattle.pol_commands.specs.declared.command.Command.{Command}
use Rattle.pol_commands.specs.declared.reply.Answer.{Answer}
use Rattle.pol_commands.specs.declared.reply.Refusal.{Refusal}
use Rattle.pol_commands.specs.declared.reply.Reply.TheVariants as reply
use Rattle.pol_machine.specs.Machine.{next_state, reply_of}
use Rattle.pol_rules.specs.declared.rules.Undone.{Undone}
use Rattle.pol_rules.specs.declared.rules.Undone.TheVariants as undone
use Rattle.pol_state.specs.Rows.{Rows, fresh_state}
use Rattle.pol_init.specs.declared.setup.SetupRefused.{SetupRefused}
use Rattle.pol_init.specs.declared.setup.SetupRefused.TheVariants.{Refused, OutOfMemory}

-- the state that commands lead to
unfoldable pub state_after : Rows → List Command → Rows
state_after s commands = fold next_state s commands

-- and the one that they lead to from the fresh state of this root secret on
abbrev pub state_set_up : List ℕ → List Command → Rows
state_set_up secret commands = state_after (fresh_state secret) commands

-- a command is answered in a state, and not refused
abbrev pub IsPassed : Rows → Command → Type 0
IsPassed s command = (answer : Answer) × (reply_of s command ≡ reply.Answered answer)

-- no command is refused in the state that those before it lead to
unfoldable pub AllPass : Rows → List Command → Type 0
AllPass s [] = ⊤
AllPass s (command ∷ commands) = IsPassed s command × AllPass (next_state s command) commands

-- the command at this index is refused in the state that those before it lead to, and none of these is
pub record IsRefusedAt (s : Rows) (commands : List Command) (index : ℕ) (why : Refusal) : Type 0 where
  pub before : List Command
  pub command : Command
  pub later : List Command
  pub all : commands ≡ before ++ command ∷ later
  pub place : index ≡ length before
  pub passed : AllPass s before
  pub refused : reply_of (state_after s before) command ≡ reply.Refused why

-- why no state is set up: the first command that is refused, or memory was wanting
abbrev pub IsSetupRefused : Rows → List Command → SetupRefused → Type 0
IsSetupRefused s commands (Refused index why) = IsRefusedAt s commands index why
IsSetupRefused s commands OutOfMemory = ⊤

-- why one command isn't done
abbrev pub IsUndone : Rows → Command → Undone → Type 0
IsUndone s command (undone.Refused why) = reply_of s command ≡ reply.Refused why
IsUndone s command undone.OutOfMemory = ⊤

abbrev pub refused_at : ℕ → Undone → SetupRefused
refused_at index (undone.Refused why) = Refused index why
refused_at index undone.OutOfMemory = OutOfMemory
