-- How many sessions and storage tokens a principal may have.
use Rattle.std.specs.Prelude.{ℕ, not, nat_lt, List, Option, Some, None, codes}
use Rattle.std.specs.Option.{option_map}
use Rattle.pol_access.specs.Names.{principal_named}
use Rattle.pol_commands.specs.declared.command.Caller.{Caller}
use Rattle.pol_commands.specs.declared.command.Caller.TheVariants.{Nobody, Bearer, Setup}
use Rattle.pol_commands.specs.declared.command.Command.{Command}
use Rattle.pol_commands.specs.declared.reply.Refusal.{Refusal}
use Rattle.pol_commands.specs.declared.reply.Refusal.TheVariants.{TooManyTokens}
use Rattle.pol_tokens.specs.Tokens.{session_count, token_count}
use Rattle.pol_rules.specs.Rules.{given, session_of, time_of}
use Rattle.pol_state.specs.Bounds.{refuse_if}
use Rattle.pol_state.specs.Rows.{Rows}

-- the principal that a caller asks for: that of its session, and `root` where it sets the catalogue up
abbrev pub caller_holder : Rows → ℕ → Caller → Option ℕ
caller_holder s time Nobody = None
caller_holder s time (Bearer text) = option_map (λ row. row.principal) (session_of s time text)
caller_holder s time Setup = option_map (λ row. row.id) (principal_named (codes "root") s.access)

unfoldable pub holder : Rows → Command → Option ℕ
holder s command = caller_holder s (time_of s command) command.caller

-- there are 10,000 already
abbrev pub too_many : ℕ → Option Refusal
too_many live = refuse_if (not (nat_lt live 10000)) (TooManyTokens live)

-- the principal has so many unexpired sessions, or storage tokens
unfoldable pub too_many_sessions : Rows → Command → ℕ → Option Refusal
too_many_sessions s command principal = too_many (session_count principal (time_of s command) s.tokens)

unfoldable pub too_many_tokens : Rows → Command → Option Refusal
too_many_tokens s command =
    given (holder s command) (λ principal. too_many (token_count principal (time_of s command) s.tokens))
