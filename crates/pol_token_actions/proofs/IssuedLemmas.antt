-- The rows once a storage token is issued are orderly.
use Rattle.std.proofs.Common.{◌≡◌, ◌<◌, ℕ, ◌+◌, false, true, cond, List, [], ◌∷◌, ◌++◌, Option, None, Some, nat_eq, refl, sym, ap, subst, ◌∙◌, arith}
use Rattle.std.specs.List.{AllByRecursion}
use Rattle.std.proofs.lemmas.Bool.{eq-eqb}
use Rattle.pol_access.specs.declared.securable.Securable.{Securable}
use Rattle.pol_commands.specs.declared.command.Command.{Command}
use Rattle.pol_table_rows.specs.Tables.{table_id}
use Rattle.pol_table_rows.specs.declared.row.TableRow.{TableRow}
use Rattle.pol_tables.specs.Rising.{KeysBelow}
use Rattle.pol_tables.specs.Table.{knows, row_of, rows_with}
use Rattle.pol_tables.proofs.ListLemmas.{each-push, each-weaken}
use Rattle.pol_tables.proofs.ReplayLemmas.{row_of-rows_with}
use Rattle.pol_tables.proofs.RisingLemmas.{KeysRise-push, knows-below}
use Rattle.pol_tokens.specs.Tokens.{serial_of, token_serial}
use Rattle.pol_tokens.specs.declared.token.TokenRow.{TokenRow}
use Rattle.pol_state.specs.Rows.{Rows}
use Rattle.pol_state.specs.Sound.{FitsFound, FitsTable, IsGiven, IsOrderly, IsSessionOf, IsTokenOf}
use Rattle.pol_token_actions.specs.Vending.{token_with, with_token}

module _ (t : Rows) (orderly : IsOrderly t) where
  sessions-below : KeysBelow serial_of t.next_serial t.tokens.sessions
  sessions-below =
      each-weaken (IsSessionOf t.next_id t.next_serial) (λ row. serial_of row < t.next_serial) t.tokens.sessions (λ row known. known.below) orderly.tokens.sessions

  tokens-below : KeysBelow token_serial t.next_serial t.tokens.tokens
  tokens-below =
      each-weaken (IsTokenOf t.next_id t.next_serial) (λ row. token_serial row < t.next_serial) t.tokens.tokens (λ row known. known.below) orderly.tokens.tokens

  -- a storage token with the next serial, of what was given its ids, that fits its table
  pub issued-orderly : (token : TokenRow) → token.serial ≡ t.next_serial → IsGiven t.next_id token.principal → IsGiven t.next_id token.table → FitsTable t.content.tables token → IsOrderly (with_token t token)
  issued-orderly token serial principal table fits = record {
    access = orderly.access;
    content = orderly.content;
    ties = orderly.ties;
    tokens = record {
      sessions_rise = orderly.tokens.sessions_rise;
      sessions = each-weaken (IsSessionOf t.next_id t.next_serial) (IsSessionOf t.next_id (t.next_serial + 1)) t.tokens.sessions (λ row known. record { below = omega (arith, known.below); principal = known.principal; scope = known.scope }) orderly.tokens.sessions;
      tokens_rise = KeysRise-push token_serial token t.tokens.tokens orderly.tokens.tokens_rise (subst (λ high. KeysBelow token_serial high t.tokens.tokens) (sym serial) tokens-below);
      tokens = each-push (IsTokenOf t.next_id (t.next_serial + 1)) t.tokens.tokens token (each-weaken (IsTokenOf t.next_id t.next_serial) (IsTokenOf t.next_id (t.next_serial + 1)) t.tokens.tokens (λ row known. record { below = omega (arith, known.below); principal = known.principal; table = known.table }) orderly.tokens.tokens) (record { below = omega (arith, serial); principal = principal; table = table });
      serials_differ = each-push (λ row. knows serial_of row.serial t.tokens.sessions ≡ false) t.tokens.tokens token orderly.tokens.serials_differ (ap (λ n. knows serial_of n t.tokens.sessions) serial ∙ knows-below serial_of t.next_serial t.tokens.sessions sessions-below);
    };
    tokens_fit = each-push (FitsTable t.content.tables) t.tokens.tokens token orderly.tokens_fit fits;
    time_bound = orderly.time_bound;
    charged_bound = orderly.charged_bound;
  }

-- a storage token that is issued of a table fits it
pub fits-issued : (s : Rows) (command : Command) (a b : ℕ) (on : Securable) (table : TableRow) (principal : ℕ) (tables : List TableRow) → row_of table_id table.id tables ≡ Some table → FitsTable tables (token_with s command a b on table principal)
fits-issued s command a b on table principal tables there =
    subst (FitsFound (token_with s command a b on table principal)) (sym there) (record { moves = omega arith; location = λ same. refl })

-- a table that was put is there
pub put-there : (row : TableRow) (tables : List TableRow) → row_of table_id row.id (rows_with table_id row tables) ≡ Some row
put-there row tables =
    row_of-rows_with table_id row.id row tables ∙ ap (λ b. cond b (Some row) (row_of table_id row.id tables)) (eq-eqb row.id row.id refl)
