-- Laws of the machine.
use Rattle.std.specs.Prelude.{◌≡◌, ◌↔◌, ◌≤◌, ◌^◌, true, None, Some, is_some}
use Rattle.pol_machine.specs.Agree.{DoesAlike}
use Rattle.pol_rules.specs.Live.{live_part, Agree}
use Rattle.pol_state.specs.Applied.{applied}
use Rattle.pol_state.specs.Changes.{changes_between}
use Rattle.pol_machine.specs.Tokens.{IsIssuedBy, IsOfItsTable}
use Rattle.pol_table_rows.specs.Tables.{table_id}
use Rattle.pol_table_rows.specs.declared.row.TableRow.{TableRow}
use Rattle.pol_tables.specs.Table.{row_of}
use Rattle.pol_token_rules.specs.Access.{is_current}
use Rattle.pol_tokens.specs.Tokens.{token_serial}
use Rattle.pol_tokens.specs.declared.token.TokenRow.{TokenRow}
use Rattle.pol_machine.specs.Machine.{acting, next_state, reply_of, rules_of, reply_with}
use Rattle.pol_commands.specs.Reply.{is_run_full}
use Rattle.pol_state.specs.Rows.{Rows}
use Rattle.pol_state.specs.Bounds.{EachPasses}
use Rattle.pol_rules.specs.Rules.{run_full, time_of}
use Rattle.pol_state.specs.Sound.{IsSound}
use Rattle.pol_commands.specs.declared.command.Command.{Command}

-- the state after a command is sound
abbrev pub NextStateIsSound : Type 0
NextStateIsSound = (s : Rows) (command : Command) → IsSound s → command.moment ≤ 2 ^ 62 → IsSound (next_state s command)

-- a command is answered exactly where each of its rules passes
abbrev pub AnsweredWhereEachRulePasses : Type 0
AnsweredWhereEachRulePasses =
    (s : Rows) (command : Command) → (reply_of s command ≡ reply_with (acting s command command.action).answer) ↔ EachPasses (rules_of s command)

-- the changes of a command lead to the state after it, unless the run is full
abbrev pub ChangesLeadToNextState : Type 0
ChangesLeadToNextState =
    (s : Rows) (command : Command) → IsSound s → run_full s command.charge ≡ None
    → applied (changes_between s (next_state s command)) (time_of s command) command.charge s ≡ next_state s command

-- a command is told that the run is full exactly where it is
abbrev pub FullRunIsTold : Type 0
FullRunIsTold = (s : Rows) (command : Command) → is_run_full (reply_of s command) ≡ is_some (run_full s command.charge)

-- a command that is told so leaves the state as it is
abbrev pub FullRunChangesNothing : Type 0
FullRunChangesNothing = (s : Rows) (command : Command) → is_run_full (reply_of s command) ≡ true → next_state s command ≡ s

-- in states that agree a command does the same
abbrev pub AgreeingStatesDoAlike : Type 0
AgreeingStatesDoAlike = (s t : Rows) (command : Command) → IsSound s → IsSound t → Agree s t → DoesAlike command s t

-- the live part of a sound state is sound, and agrees with it
abbrev pub LivePartAgrees : Type 0
LivePartAgrees = (s : Rows) → IsSound s → IsSound (live_part s) × Agree (live_part s) s

-- a storage token that a command issues is its table's
abbrev pub IssuedTokensAreTheirTables : Type 0
IssuedTokensAreTheirTables =
    (s : Rows) (command : Command) (token : TokenRow) → IsSound s → command.moment ≤ 2 ^ 62 → IsIssuedBy s command token → IsOfItsTable s command token

-- a storage token of a sound state that is current lies where its table lies
abbrev pub OpenTokensLieAtTheirTables : Type 0
OpenTokensLieAtTheirTables =
    (s : Rows) (token : TokenRow) (table : TableRow) → IsSound s → row_of token_serial token.serial s.tokens.tokens ≡ Some token → row_of table_id token.table s.content.tables ≡ Some table
    → is_current s token ≡ true → token.location ≡ table.location
