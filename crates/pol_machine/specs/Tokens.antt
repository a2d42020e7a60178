-- Storage tokens that commands issue.
use Rattle.std.specs.Prelude.{◌≡◌, ◌+◌, ◌<◌, false, Some}
use Rattle.pol_access.specs.declared.privilege.Privilege.TheVariants.{TableWriteData}
use Rattle.pol_access.specs.declared.securable.Securable.TheVariants as securable
use Rattle.pol_commands.specs.declared.command.Command.{Command}
use Rattle.pol_rules.specs.Needs.{caller_may}
use Rattle.pol_rules.specs.Rules.{time_of}
use Rattle.pol_state.specs.Rows.{Rows}
use Rattle.pol_table_rows.specs.Tables.{table_id}
use Rattle.pol_table_rows.specs.declared.row.TableRow.{TableRow}
use Rattle.pol_tables.specs.Table.{knows, row_of}
use Rattle.pol_tokens.specs.Tokens.{token_serial}
use Rattle.pol_tokens.specs.declared.token.TokenRow.{TokenRow}
use Rattle.pol_machine.specs.Machine.{next_state}

-- a command issues the storage token: it is there after it, and no token had its serial before
pub record IsIssuedBy (s : Rows) (command : Command) (token : TokenRow) : Type 0 where
  pub there : row_of token_serial token.serial (next_state s command).tokens.tokens ≡ Some token
  pub new : knows token_serial token.serial s.tokens.tokens ≡ false

-- the token is its table's in the state after the command, and writes where the caller may
pub record IsOfItsTable (s : Rows) (command : Command) (token : TokenRow) : Type 0 where
  pub table : TableRow
  pub there : row_of table_id token.table (next_state s command).content.tables ≡ Some table
  pub moves : token.moves ≡ table.moves
  pub location : token.location ≡ table.location
  pub write : token.write ≡ caller_may (next_state s command) (time_of s command) command.caller (record { privilege = TableWriteData; on = securable.Table token.table })
  pub expires : token.expires ≡ time_of s command + 900000
