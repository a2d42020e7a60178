-- Storage tokens that actions issue.
use Rattle.std.specs.Prelude.{ℕ, ◌+◌, Bool, false, List, [], ◌∷◌, ◌++◌, Option, Some, None, option_and_then}
use Rattle.std.specs.Option.{option_map}
use Rattle.pol_access.specs.declared.privilege.Privilege.TheVariants.{TableCreate, TableReadData, TableReadProperties}
use Rattle.pol_access.specs.declared.securable.Securable.{Securable}
use Rattle.pol_access.specs.declared.securable.Securable.TheVariants as securable
use Rattle.pol_commands.specs.declared.command.Command.{Command}
use Rattle.pol_commands.specs.declared.create_table.CreateTable.{CreateTable}
use Rattle.pol_commands.specs.declared.reply.Answer.{Answer}
use Rattle.pol_commands.specs.declared.reply.Answer.TheVariants.{CredentialsLoaded}
use Rattle.pol_content.specs.Content.{part_named}
use Rattle.pol_content.specs.declared.rows.NamespaceRow.{NamespaceRow}
use Rattle.pol_names.specs.declared.identifier.Identifier.{Identifier}
use Rattle.pol_table_rows.specs.declared.row.TableRow.{TableRow}
use Rattle.pol_tokens.specs.Issued.{issued}
use Rattle.pol_tokens.specs.declared.token.TokenRow.{TokenRow}
use Rattle.pol_rules.specs.Acting.{Acting, done}
use Rattle.pol_rules.specs.Prologues.{at_table, namespace_row_at, table_row_at}
use Rattle.pol_rules.specs.declared.rules.Asked.{Asked}
use Rattle.pol_rules.specs.Rules.{given, inside, name_taken, time_of}
use Rattle.pol_rules.specs.TableRules.{bad_creation, bad_location, location_asked, location_outside, location_overlap, other_format, staged}
use Rattle.pol_token_rules.specs.Counts.{holder, too_many_tokens}
use Rattle.pol_token_rules.specs.DataNeeds.{at_table_data, may_write, on_namespace_data}
use Rattle.pol_state.specs.Rows.{Rows}
use Rattle.pol_table_actions.specs.Creation.{new_table, with_table}
use Rattle.pol_table_actions.specs.Loading.{loaded_with}

-- the storage token that a command issues of a table, with these two words, to a principal: it writes where the caller
-- may write the data of the tables of a securable
abbrev pub token_with : Rows → Command → ℕ → ℕ → Securable → TableRow → ℕ → TokenRow
token_with s command a b on table principal =
    issued table principal (may_write s command on) (time_of s command) (record { serial = s.next_serial; word_a = a; word_b = b })

-- the rows with one more storage token
abbrev pub with_token : Rows → TokenRow → Rows
with_token s row =
    record s { tokens = record s.tokens { tokens = s.tokens.tokens ++ row ∷ [] }; next_serial = s.next_serial + 1 }

-- the storage token of a table that is there, which takes the first two words
abbrev pub token_there : Asked → TableRow → ℕ → TokenRow
token_there asked table principal =
    token_with asked.state.now.rows asked.command.now asked.command.now.words.a asked.command.now.words.b (securable.Table table.id) table principal

-- the storage token of a table that is there, for the caller's principal
abbrev pub token_at : Rows → Command → TableRow → Option TokenRow
token_at s command table =
    option_map (token_with s command command.words.a command.words.b (securable.Table table.id) table) (holder s command)

-- the rows once it is issued
abbrev pub with_token_at : Rows → Command → TableRow → Rows
with_token_at s command table = done s (token_at s command table) (with_token s)

-- what is answered of a table with a storage token
abbrev pub loaded_as : Bool → TableRow → Option TokenRow → Option Answer
loaded_as refs_only table token = option_map (λ row. loaded_with refs_only (Some row) table) token

-- loading a table with a storage token
abbrev pub load_delegated : Rows → Command → List ℕ → Identifier → Bool → Acting
load_delegated s command name identifier refs_only = record {
  rules = at_table_data s command TableReadProperties name identifier (too_many_tokens s command ∷ []);
  after = done s (table_row_at s name identifier) (with_token_at s command);
  answer = option_and_then (λ table. loaded_as refs_only table (token_at s command table)) (table_row_at s name identifier);
}

-- loading a storage token alone
abbrev pub load_credentials : Rows → Command → List ℕ → Identifier → Acting
load_credentials s command name identifier = record {
  rules = at_table s command TableReadData name identifier (too_many_tokens s command ∷ []);
  after = done s (table_row_at s name identifier) (with_token_at s command);
  answer = option_and_then (λ table. option_map CredentialsLoaded (token_at s command table)) (table_row_at s name identifier);
}

-- the storage token of a new table, which takes the last two words. No grant is on a table that isn't there yet, so it
-- writes where the caller may write the data of the tables of its namespace
abbrev pub new_token : Rows → Command → TableRow → ℕ → TokenRow
new_token s command table principal =
    token_with s command command.words.c command.words.d (securable.Namespace table.namespace) table principal

abbrev pub token_made : Asked → TableRow → ℕ → TokenRow
token_made asked table principal = new_token asked.state.now.rows asked.command.now table principal

abbrev pub token_new : Rows → Command → TableRow → Option TokenRow
token_new s command table = option_map (new_token s command table) (holder s command)

-- the rows with a new table and its storage token
abbrev pub with_both : Rows → TableRow → TokenRow → Rows
with_both s table token = with_token (with_table s table) token

abbrev pub with_token_new : Rows → Command → TableRow → Rows
with_token_new s command table = done s (token_new s command table) (with_both s table)

-- creating a table with a storage token
abbrev pub create_delegated : Rows → Command → List ℕ → List (List ℕ) → CreateTable → Acting
create_delegated s command name levels request = record {
  rules = on_namespace_data s command TableCreate name levels (
      given (namespace_row_at s name levels) (λ (namespace : NamespaceRow). name_taken (part_named namespace.id request.name s.content) request.name)
      ∷ bad_creation request
      ∷ inside s name (bad_location levels request.location request.name)
      ∷ inside s name (λ catalog. location_outside (location_asked levels request.location request.name catalog) catalog)
      ∷ inside s name (λ catalog. location_overlap s (location_asked levels request.location request.name catalog))
      ∷ too_many_tokens s command
      ∷ staged request.stage_create
      ∷ other_format request.properties
      ∷ []);
  after = done s (new_table s command name levels request) (with_token_new s command);
  answer = option_and_then (λ table. loaded_as false table (token_new s command table)) (new_table s command name levels request);
}
