-- Commands in states that agree.
use Rattle.std.specs.Prelude.{◌≡◌}
use Rattle.pol_commands.specs.declared.command.Command.{Command}
use Rattle.pol_state.specs.Changes.{changes_between}
use Rattle.pol_state.specs.Rows.{Rows}
use Rattle.pol_rules.specs.Live.{Agree}
use Rattle.pol_machine.specs.Machine.{next_state, reply_of}

-- a command does the same in both states: its reply, its changes, and what is live after it
pub record DoesAlike (command : Command) (s t : Rows) : Type 0 where
  pub reply : reply_of s command ≡ reply_of t command
  pub changes : changes_between s (next_state s command) ≡ changes_between t (next_state t command)
  pub next : Agree (next_state s command) (next_state t command)
