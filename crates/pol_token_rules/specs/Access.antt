-- What a storage token opens.
use Rattle.std.specs.Prelude.{ℕ, Bool, false, nat_eq, List, Option, Some, None, is_none, option_and_then}
use Rattle.std.specs.Option.{option_map}
use Rattle.pol_commands.specs.declared.command.Caller.{Caller}
use Rattle.pol_commands.specs.declared.command.Caller.TheVariants.{Nobody, Bearer, Setup}
use Rattle.pol_commands.specs.declared.command.Command.{Command}
use Rattle.pol_commands.specs.declared.reply.Refusal.{Refusal}
use Rattle.pol_commands.specs.declared.reply.Refusal.TheVariants.{NotCovered, NotWritable, TokenUnknown}
use Rattle.pol_table_rows.specs.Tables.{table_id}
use Rattle.pol_table_rows.specs.declared.row.TableRow.{TableRow}
use Rattle.pol_tables.specs.Table.{row_of}
use Rattle.pol_tokens.specs.Issued.{not_allowed}
use Rattle.pol_tokens.specs.Tokens.{find_token}
use Rattle.pol_tokens.specs.declared.token.Act.{Act}
use Rattle.pol_tokens.specs.declared.token.TokenRefused.{TokenRefused}
use Rattle.pol_tokens.specs.declared.token.TokenRefused.TheVariants as refused
use Rattle.pol_tokens.specs.declared.token.TokenRow.{TokenRow}
use Rattle.pol_rules.specs.Rules.{given, kept_if, time_of}
use Rattle.pol_state.specs.Bounds.{refuse_if}
use Rattle.pol_state.specs.Rows.{Rows}

-- whether a token's table is there, and has seen no more moves than when the token was issued
abbrev pub has_moves : ℕ → Option TableRow → Bool
has_moves moves None = false
has_moves moves (Some table) = nat_eq table.moves moves

abbrev pub is_current : Rows → TokenRow → Bool
is_current s token = has_moves token.moves (row_of table_id token.table s.content.tables)

-- the unexpired storage token of a text, where it is current, and that of a caller
unfoldable pub token_of_text : Rows → ℕ → List ℕ → Option TokenRow
token_of_text s time text = kept_if (is_current s) (find_token text time s.tokens)

abbrev pub token_of : Rows → ℕ → Caller → Option TokenRow
token_of s time Nobody = None
token_of s time (Bearer text) = token_of_text s time text
token_of s time Setup = None

abbrev pub token_borne : Rows → Command → Option TokenRow
token_borne s command = token_of s (time_of s command) command.caller

-- no unexpired storage token has the caller's text, or its table is gone or has moved
unfoldable pub token_unknown : Rows → Command → Option Refusal
token_unknown s command = refuse_if (is_none (token_borne s command)) TokenUnknown

-- the token doesn't open the path for the act: its location doesn't cover the path, or else the act writes and the
-- token doesn't
abbrev pub told_as : TokenRefused → Refusal
told_as refused.NotCovered = NotCovered
told_as refused.NotWritable = NotWritable

unfoldable pub unopened : TokenRow → List (List ℕ) → Act → Option Refusal
unopened token path act = option_map told_as (not_allowed token path act)
