-- Actions in a state.
use Rattle.std.specs.Prelude.{◌+◌, List, Option, Some, None}
use Rattle.pol_state.specs.Rows.{Rows}
use Rattle.pol_commands.specs.declared.command.Command.{Command}
use Rattle.pol_commands.specs.declared.reply.Answer.{Answer}
use Rattle.pol_commands.specs.declared.reply.Refusal.{Refusal}
use Rattle.pol_rules.specs.Rules.{time_of}

-- an action in a state: its rules in their order, the rows once it is done, and its answer, where it found what it
-- answers on
pub record Acting : Type 0 where
  pub rules : List (Option Refusal)
  pub after : Rows
  pub answer : Option Answer

-- an action that changes nothing
abbrev pub reading : Rows → List (Option Refusal) → Option Answer → Acting
reading s rules answer = record { rules = rules; after = s; answer = answer }

-- the rows once an action is done on what it found; where it found nothing, one of its rules has refused
abbrev pub done : {A : Type 0} → Rows → Option A → (A → Rows) → Rows
done s None after = s
done s (Some found) after = after found

-- these rows, with the command's time, and its charge added
abbrev pub stamped : Rows → Command → Rows → Rows
stamped s command rows = record rows { time = time_of s command; charged = s.charged + command.charge }

-- the rows as they are where a rule fails, else those after the action
abbrev pub rows_by : Option Refusal → Rows → Rows → Rows
rows_by (Some why) s after = s
rows_by None s after = after
