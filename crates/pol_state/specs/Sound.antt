-- Sound states.
use Rattle.std.specs.Prelude.{◌≡◌, ◌<◌, ◌≤◌, ◌^◌, ℕ, false, List, Option, Some, None}
use Rattle.std.specs.Bool.{⊤}
use Rattle.std.specs.List.{AllByRecursion}
pub use Rattle.pol_access.specs.Sound.{AreFacts, HasRootChain, IsCatalogRoleOf, IsGrantOf, IsJoinOf, IsMemberOf, IsSecurableGiven, IsSoundAccess}
use Rattle.pol_content.specs.Sound.{IsSoundContent}
pub use Rattle.pol_content.specs.Ties.{AreTied}
use Rattle.pol_names.specs.declared.scope.Scope.{Scope}
use Rattle.pol_names.specs.declared.scope.Scope.TheVariants as scope
pub use Rattle.pol_tables.specs.Numbered.{AreNumbered, IsGiven}
use Rattle.pol_table_rows.specs.Tables.{table_id}
use Rattle.pol_table_rows.specs.declared.row.TableRow.{TableRow}
use Rattle.pol_tables.specs.Rising.{KeysRise}
use Rattle.pol_tables.specs.Table.{knows, row_of}
use Rattle.pol_tokens.specs.Tokens.{TokenRows, serial_of, token_serial}
use Rattle.pol_tokens.specs.declared.session.SessionRow.{SessionRow}
use Rattle.pol_tokens.specs.declared.token.TokenRow.{TokenRow}
use Rattle.pol_state.specs.Bounds.{over_limit}
use Rattle.pol_state.specs.Rows.{Rows}

-- the ids that a scope names were given out
abbrev pub NamesGiven : ℕ → Scope → Type 0
NamesGiven next_id scope.All = ⊤
NamesGiven next_id (scope.Roles roles) = AllByRecursion (IsGiven next_id) roles

-- a session whose serial is below the next one, and whose ids were given out; it may name what is gone
pub record IsSessionOf (next_id next_serial : ℕ) (row : SessionRow) : Type 0 where
  pub below : row.serial < next_serial
  pub principal : IsGiven next_id row.principal
  pub scope : NamesGiven next_id row.scope

-- a storage token whose serial is below the next one, and whose ids were given out; it may name what is gone
pub record IsTokenOf (next_id next_serial : ℕ) (row : TokenRow) : Type 0 where
  pub below : row.serial < next_serial
  pub principal : IsGiven next_id row.principal
  pub table : IsGiven next_id row.table

-- sound sessions and storage tokens, of which no two have one serial
pub record IsSoundTokens (next_id next_serial : ℕ) (rows : TokenRows) : Type 0 where
  pub sessions_rise : KeysRise serial_of rows.sessions
  pub sessions : AllByRecursion (IsSessionOf next_id next_serial) rows.sessions
  pub tokens_rise : KeysRise token_serial rows.tokens
  pub tokens : AllByRecursion (IsTokenOf next_id next_serial) rows.tokens
  pub serials_differ : AllByRecursion (λ row. knows serial_of row.serial rows.sessions ≡ false) rows.tokens

-- a storage token has seen at most the moves of its table, where this is there, and where it has seen all of them its
-- location is the table's
pub record IsFit (token : TokenRow) (table : TableRow) : Type 0 where
  pub moves : token.moves ≤ table.moves
  pub location : token.moves ≡ table.moves → token.location ≡ table.location

abbrev pub FitsFound : TokenRow → Option TableRow → Type 0
FitsFound token None = ⊤
FitsFound token (Some table) = IsFit token table

abbrev pub FitsTable : List TableRow → TokenRow → Type 0
FitsTable tables token = FitsFound token (row_of table_id token.table tables)

-- all that holds of a sound state but its bounds
pub record IsOrderly (s : Rows) : Type 0 where
  pub access : IsSoundAccess s.next_id s.access
  pub content : IsSoundContent s.next_id s.content
  pub ties : AreTied s.access s.content
  pub tokens : IsSoundTokens s.next_id s.next_serial s.tokens
  pub tokens_fit : AllByRecursion (FitsTable s.content.tables) s.tokens.tokens
  pub time_bound : s.time ≤ 2 ^ 62
  pub charged_bound : s.charged ≤ 2 ^ 30

-- a sound state: it is orderly, and no quantity is above its bound
pub record IsSound (s : Rows) : Type 0 where
  pub orderly : IsOrderly s
  pub within : over_limit s ≡ None
