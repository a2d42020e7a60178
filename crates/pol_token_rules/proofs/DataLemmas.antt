-- What stops the rules that actions which hand out storage tokens begin with stops the action.
use Rattle.std.proofs.Common.{◌≡◌, ℕ, List, Option, Some, Result, Err, refl}
use Rattle.std.specs.Result.{IsErrAnd}
use Rattle.pol_access.specs.declared.privilege.Privilege.{Privilege}
use Rattle.pol_tables.specs.Table.{row_of}
use Rattle.pol_names.specs.declared.identifier.Identifier.{Identifier}
use Rattle.pol_table_rows.specs.Tables.{table_id}
use Rattle.pol_table_rows.specs.declared.row.TableRow.{TableRow}
use Rattle.pol_commands.specs.declared.command.Command.{Command}
use Rattle.pol_commands.specs.declared.reply.Answer.{Answer}
use Rattle.pol_commands.specs.declared.reply.Refusal.{Refusal}
use Rattle.pol_state.specs.Rows.{Rows}
use Rattle.pol_rules.specs.Judged.{Does, Enters}
use Rattle.pol_rules.specs.Prologues.{table_row_at}
use Rattle.pol_rules.specs.declared.rules.Acted.{Acted}
use Rattle.pol_rules.specs.declared.rules.Undone.{Undone}
use Rattle.pol_rules.proofs.JudgedLemmas.{entered-stopped}
use Rattle.pol_token_rules.specs.DataNeeds.{at_table_data}

module _ (s : Rows) (command : Command) (rules : List (Option Refusal)) (after : Rows) (answer : Option Answer) (why : Undone) (result : Result Acted Undone) (told : IsErrAnd result (λ one. one ≡ why)) where
  pub at_table_data_stops : (privilege : Privilege) (name : List ℕ) (identifier : Identifier) → Enters {T = TableRow} (at_table_data s command privilege name identifier) (λ row. (table_row_at s name identifier ≡ Some row) × (row_of table_id row.id s.content.tables ≡ Some row)) (Err why) → Does s command (record { rules = at_table_data s command privilege name identifier rules; after = after; answer = answer }) result
  at_table_data_stops privilege name identifier entered =
      entered-stopped {T = TableRow} (λ row. (table_row_at s name identifier ≡ Some row) × (row_of table_id row.id s.content.tables ≡ Some row)) (at_table_data s command privilege name identifier) s command (record { rules = at_table_data s command privilege name identifier rules; after = after; answer = answer }) rules why result refl (λ passes. passes) told entered
