-- The changes of the actions that issue storage tokens.
use Rattle.std.proofs.Common.{◌≡◌, ℕ, ◌+◌, [], ◌∷◌, ◌++◌, map, refl, sym, subst, ap, ◌∙◌, arith}
use Rattle.pol_commands.specs.declared.command.Command.{Command}
use Rattle.pol_content.specs.declared.change.Change.TheVariants.{Time, NextId, NextSerial, PutTable, DropTable, PutToken}
use Rattle.pol_rules.specs.Acting.{stamped}
use Rattle.pol_rules.specs.Rules.{time_of}
use Rattle.pol_rules.proofs.SoundLemmas.{next-new}
use Rattle.pol_state.specs.Changes.{changes_between}
use Rattle.pol_state.specs.Rows.{Rows}
use Rattle.pol_state.specs.Sound.{IsSound}
use Rattle.pol_state.proofs.ChangesLemmas.{none, still, made-with_both, made-with_serials, token_serials-below}
use Rattle.pol_table_rows.specs.Tables.{table_id}
use Rattle.pol_table_rows.specs.contracts.row.TableRow as table
use Rattle.pol_table_rows.specs.declared.row.TableRow.{TableRow}
use Rattle.pol_tables.specs.Changes.{new_rows}
use Rattle.pol_tables.specs.Rising.{KeysBelow}
use Rattle.pol_tables.proofs.ChangesLemmas.{holds-unknown, new_rows-append, table_changes-put_new}
use Rattle.pol_tables.proofs.RisingLemmas.{knows-below}
use Rattle.pol_tokens.specs.Tokens.{token_serial}
use Rattle.pol_tokens.specs.contracts.token.TokenRow as token
use Rattle.pol_tokens.specs.declared.token.TokenRow.{TokenRow}
use Rattle.pol_token_actions.specs.Vending.{with_both, with_token}

module _ (s : Rows) (command : Command) (sound : IsSound s) (row : TokenRow) (serial : row.serial ≡ s.next_serial) where
  pub below : KeysBelow token_serial row.serial s.tokens.tokens
  below = subst (λ high. KeysBelow token_serial high s.tokens.tokens) (sym serial) (token_serials-below s sound)

  -- the new token is the one new row
  new_rows-issued : new_rows token.the_row.coded s.tokens.tokens (s.tokens.tokens ++ row ∷ []) ≡ row ∷ []
  new_rows-issued =
      new_rows-append token.the_row.coded s.tokens.tokens (row ∷ []) (holds-unknown token.the_row.coded token_serial row s.tokens.tokens (knows-below token_serial row.serial s.tokens.tokens below), tt)

  -- a token that is issued is three changes
  pub token_changes : changes_between s (stamped s command (with_token s row)) ≡ Time (time_of s command) ∷ NextSerial (s.next_serial + 1) ∷ PutToken row ∷ []
  token_changes =
      made-with_serials s (stamped s command (with_token s row)) 1 (record none { tokens = PutToken row ∷ [] }) (omega arith) refl refl (λ i. record (still s i) { tokens = ap (map PutToken) new_rows-issued i })

  -- and with a table that takes the next id it is five
  pub both_changes : (placed : TableRow) → placed.id ≡ s.next_id
      → changes_between s (stamped s command (with_both s placed row)) ≡ Time (time_of s command) ∷ NextId (s.next_id + 1) ∷ NextSerial (s.next_serial + 1) ∷ PutTable placed ∷ PutToken row ∷ []
  both_changes placed id =
      let new = next-new table_id s.next_id placed.id s.content.tables sound.orderly.content.tables.numbered id in
      made-with_both s (stamped s command (with_both s placed row)) 1 1 (record none { tables = PutTable placed ∷ []; tokens = PutToken row ∷ [] }) (omega arith) (omega arith) refl refl (λ i. record (still s i) {
        tables = table_changes-put_new table.the_row.coded table_id PutTable DropTable placed s.content.tables new i;
        tokens = ap (map PutToken) new_rows-issued i;
      })
