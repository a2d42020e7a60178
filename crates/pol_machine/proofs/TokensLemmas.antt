-- Storage tokens that commands issue are their tables'.
use Rattle.std.proofs.Common.{◌≡◌, ◌+◌, ◌⊎◌, ℕ, Bool, true, false, cond, ◌||◌, List, [], ◌∷◌, ◌++◌, Option, None, Some, is_some, nat_eq, option_and_then, option_map, refl, sym, ap, subst, ◌∙◌, inl, inr, arith, true≢false}
use Rattle.std.proofs.lemmas.Bool.{eqb-true, or_parts}
use Rattle.pol_access.specs.declared.privilege.Privilege.TheVariants.{TableWriteData}
use Rattle.pol_access.specs.declared.rows.PrincipalRow.{PrincipalRow}
use Rattle.pol_access.specs.declared.securable.Securable.TheVariants as securable
use Rattle.pol_commands.specs.declared.command.Action.{Action}
use Rattle.pol_commands.specs.declared.command.Action.TheVariants.{OpenSession, GetConfig, ListCatalogs, CreateCatalog, GetCatalog, DropCatalog, ListNamespaces, CreateNamespace, LoadNamespace, HeadNamespace, DropNamespace, UpdateProperties, ListTables, CreateTable, LoadTable, HeadTable, DropTable, ReportMetrics, CommitTable, CommitTransaction, RenameTable, ListViews, CreateView, LoadView, HeadView, ReplaceView, DropView, RenameView, ListPrincipals, CreatePrincipal, GetPrincipal, DropPrincipal, Rotate, ListMembers, AddMember, EndMember, ListPrincipalRoles, CreatePrincipalRole, GetPrincipalRole, DropPrincipalRole, ListJoins, AddJoin, EndJoin, ListCatalogRoles, CreateCatalogRole, GetCatalogRole, DropCatalogRole, ListGrants, AddGrant, Revoke, LoadCredentials, Access}
use Rattle.pol_commands.specs.declared.command.Caller.{Caller}
use Rattle.pol_commands.specs.declared.command.Caller.TheVariants.{Nobody, Bearer, Setup}
use Rattle.pol_commands.specs.declared.command.Command.{Command}
use Rattle.pol_commands.specs.declared.create_table.CreateTable.{CreateTable as NewTable}
use Rattle.pol_commands.specs.declared.reply.Refusal.{Refusal}
use Rattle.pol_names.specs.declared.identifier.Identifier.{Identifier}
use Rattle.pol_table_rows.specs.Tables.{table_id}
use Rattle.pol_table_rows.specs.declared.row.TableRow.{TableRow}
use Rattle.pol_tables.specs.Table.{has_id, knows, row_of}
use Rattle.pol_tables.proofs.TableLemmas.{is_some-row_of, some_is}
use Rattle.pol_tokens.specs.Tokens.{token_serial}
use Rattle.pol_tokens.specs.declared.token.TokenRow.{TokenRow}
use Rattle.pol_state.specs.Bounds.{first_refusal}
use Rattle.pol_state.specs.Rows.{Rows}
use Rattle.pol_state.specs.Sound.{FitsFound, FitsTable, IsFit, IsSound}
use Rattle.pol_rules.specs.Acting.{done, rows_by, stamped}
use Rattle.pol_rules.specs.Needs.{caller_may, session_may}
use Rattle.pol_rules.specs.Prologues.{table_row_at}
use Rattle.pol_rules.specs.Rules.{client_of, run_full, session_of, time_of}
use Rattle.pol_rules.specs.declared.needs.Need.{Need}
use Rattle.pol_rules.proofs.FoundLemmas.{found-holds}
use Rattle.pol_content_actions.specs.Sessions.{session_opened}
use Rattle.pol_table_actions.specs.Creation.{new_table}
use Rattle.pol_table_actions.proofs.ActionLemmas.{placed-id, table-own}
use Rattle.pol_token_rules.specs.Access.{has_moves, is_current}
use Rattle.pol_token_rules.specs.Counts.{holder}
use Rattle.pol_token_actions.specs.Vending.{new_token, token_with, with_both, with_token, with_token_at, with_token_new}
use Rattle.pol_token_actions.proofs.IssuedLemmas.{put-there}
use Rattle.pol_token_actions.proofs.WriteLemmas.{writes-kept, writes-new}
use Rattle.pol_machine.specs.Machine.{acting, creating, loading, next_by, next_state, rules_within}
use Rattle.pol_machine.specs.Tokens.{IsIssuedBy, IsOfItsTable}

-- a row that is found by a serial that none of the others has is the last one
found-last : (serial : ℕ) (rows : List TokenRow) (last found : TokenRow) → knows token_serial serial rows ≡ false → row_of token_serial serial (rows ++ last ∷ []) ≡ Some found → last ≡ found
found-last serial [] last found none is = by (nat_eq serial last.serial) is
  where
    by : (b : Bool) → cond b (Some last) None ≡ Some found → last ≡ found
    by true is = some_is last found is
    by false is = let contrary : None ≡ Some found = is in cc
found-last serial (row ∷ rows) last found none is =
    let parts = or_parts (nat_eq serial row.serial) (knows token_serial serial rows) none in
    found-last serial rows last found parts.1 (sym (ap (λ b. cond b (Some row) (row_of token_serial serial (rows ++ last ∷ []))) parts.0) ∙ is)

-- rows after an action that issued no storage token, or one that is its table's there
module _ (s : Rows) (command : Command) where
  record IsOwn (after : Rows) (token : TokenRow) : Type 0 where
    table : TableRow
    there : row_of table_id token.table after.content.tables ≡ Some table
    moves : token.moves ≡ table.moves
    location : token.location ≡ table.location
    write : token.write ≡ caller_may after (time_of s command) command.caller (record { privilege = TableWriteData; on = securable.Table token.table })
    expires : token.expires ≡ time_of s command + 900000

  record IssuesOne (after : Rows) : Type 0 where
    token : TokenRow
    tokens : after.tokens.tokens ≡ s.tokens.tokens ++ token ∷ []
    own : IsOwn after token

  abbrev Issues : Rows → Type 0
  Issues after = (after.tokens.tokens ≡ s.tokens.tokens) ⊎ IssuesOne after

  -- rows that come of what was found
  issues-done : {A : Type 0} (found : Option A) (after : A → Rows) → ((one : A) → found ≡ Some one → Issues (after one)) → Issues (done s found after)
  issues-done None after so = inl refl
  issues-done (Some one) after so = so one refl

  stays-done : {A : Type 0} (found : Option A) (after : A → Rows) → ((one : A) → (after one).tokens.tokens ≡ s.tokens.tokens) → Issues (done s found after)
  stays-done None after so = inl refl
  stays-done (Some one) after so = inl (so one)

  stays-session : (scopes : List (List ℕ)) (client : Option PrincipalRow) → Issues (session_opened s command scopes client)
  stays-session scopes None = inl refl
  stays-session scopes (Some principal) = inl refl

  module _ (sound : IsSound s) where
    -- a storage token of a table that is there
    issues-at : (table : TableRow) → row_of table_id table.id s.content.tables ≡ Some table → Issues (with_token_at s command table)
    issues-at table there = issues-done (option_map (token_with s command command.words.a command.words.b (securable.Table table.id) table) (holder s command)) (with_token s) (λ token made. by token (holder s command) made)
      where
        by : (token : TokenRow) (found : Option ℕ) → option_map (token_with s command command.words.a command.words.b (securable.Table table.id) table) found ≡ Some token → Issues (with_token s token)
        by token None made = let contrary : None ≡ Some token = made in cc
        by token (Some principal) made = subst (λ one. Issues (with_token s one)) (some_is (token_with s command command.words.a command.words.b (securable.Table table.id) table principal) token made) (inr (record {
          token = token_with s command command.words.a command.words.b (securable.Table table.id) table principal;
          tokens = refl;
          own = record {
            table = table;
            there = there;
            moves = refl;
            location = refl;
            write = writes-kept s command (token_with s command command.words.a command.words.b (securable.Table table.id) table principal) (securable.Table table.id);
            expires = refl;
          };
        }))

    -- and of a new one
    issues-new : (table : TableRow) → table.id ≡ s.next_id → Issues (with_token_new s command table)
    issues-new table id = issues-done (option_map (new_token s command table) (holder s command)) (with_both s table) (λ token made. by token (holder s command) made)
      where
        by : (token : TokenRow) (found : Option ℕ) → option_map (new_token s command table) found ≡ Some token → Issues (with_both s table token)
        by token None made = let contrary : None ≡ Some token = made in cc
        by token (Some principal) made = subst (λ one. Issues (with_both s table one)) (some_is (new_token s command table principal) token made) (inr (record {
          token = new_token s command table principal;
          tokens = refl;
          own = record {
            table = table;
            there = put-there table s.content.tables;
            moves = refl;
            location = refl;
            write = writes-new s sound command table id (new_token s command table principal);
            expires = refl;
          };
        }))

    issues-creating : (delegated : Bool) (name : List ℕ) (levels : List (List ℕ)) (request : NewTable) → Issues (creating delegated s command name levels request).after
    issues-creating false name levels request = stays-done (new_table s command name levels request) _ (λ table. refl)
    issues-creating true name levels request =
        issues-done (new_table s command name levels request) (with_token_new s command) (λ table made. issues-new table (placed-id s command name levels request table made))

    issues-loading : (delegated : Bool) (name : List ℕ) (identifier : Identifier) (refs_only : Bool) → Issues (loading delegated s command name identifier refs_only).after
    issues-loading false name identifier refs_only = inl refl
    issues-loading true name identifier refs_only =
        issues-done (table_row_at s name identifier) (with_token_at s command) (λ table found. issues-at table (table-own s command sound name identifier table found))

    issues : (action : Action) → Issues (acting s command action).after
    issues (OpenSession client_id secret scopes) = stays-session scopes (client_of s client_id secret)
    issues (GetConfig name) = inl refl
    issues ListCatalogs = inl refl
    issues (CreateCatalog name base allowed properties external) = stays-done _ _ (λ one. refl)
    issues (GetCatalog name) = inl refl
    issues (DropCatalog name) = stays-done _ _ (λ one. refl)
    issues (ListNamespaces name parent) = inl refl
    issues (CreateNamespace name levels properties) = stays-done _ _ (λ one. refl)
    issues (LoadNamespace name levels) = inl refl
    issues (HeadNamespace name levels) = inl refl
    issues (DropNamespace name levels) = stays-done _ _ (λ one. refl)
    issues (UpdateProperties name levels removals updates) = stays-done _ _ (λ one. refl)
    issues (ListTables name levels) = inl refl
    issues (CreateTable name levels request delegated) = issues-creating delegated name levels request
    issues (LoadTable name identifier refs_only delegated) = issues-loading delegated name identifier refs_only
    issues (LoadCredentials name identifier) =
        issues-done (table_row_at s name identifier) (with_token_at s command) (λ table found. issues-at table (table-own s command sound name identifier table found))
    issues (HeadTable name identifier) = inl refl
    issues (DropTable name identifier) = stays-done _ _ (λ one. refl)
    issues (ReportMetrics name identifier) = inl refl
    issues (CommitTable name commit) = inl refl
    issues (CommitTransaction name commits) = inl refl
    issues (RenameTable name source destination) = stays-done _ _ (λ one. refl)
    issues (ListViews name levels) = inl refl
    issues (CreateView name levels request) = stays-done _ _ (λ one. refl)
    issues (LoadView name identifier) = inl refl
    issues (HeadView name identifier) = inl refl
    issues (ReplaceView name commit) = stays-done _ _ (λ one. refl)
    issues (DropView name identifier) = stays-done _ _ (λ one. refl)
    issues (RenameView name source destination) = stays-done _ _ (λ one. refl)
    issues ListPrincipals = inl refl
    issues (CreatePrincipal name client_id secret) = inl refl
    issues (GetPrincipal name) = inl refl
    issues (DropPrincipal name) = stays-done _ _ (λ one. refl)
    issues (Rotate name secret) = stays-done _ _ (λ one. refl)
    issues (ListMembers principal) = inl refl
    issues (AddMember principal role) = stays-done _ _ (λ one. refl)
    issues (EndMember principal role) = stays-done _ _ (λ one. refl)
    issues ListPrincipalRoles = inl refl
    issues (CreatePrincipalRole name) = inl refl
    issues (GetPrincipalRole name) = inl refl
    issues (DropPrincipalRole name) = stays-done _ _ (λ one. refl)
    issues (ListJoins catalog role) = inl refl
    issues (AddJoin catalog role catalog_role) = stays-done _ _ (λ one. refl)
    issues (EndJoin catalog role catalog_role) = stays-done _ _ (λ one. refl)
    issues (ListCatalogRoles catalog) = inl refl
    issues (CreateCatalogRole catalog name) = stays-done _ _ (λ one. refl)
    issues (GetCatalogRole catalog name) = inl refl
    issues (DropCatalogRole catalog name) = stays-done _ _ (λ one. refl)
    issues (ListGrants catalog role) = inl refl
    issues (AddGrant catalog role grant) = stays-done _ _ (λ one. refl)
    issues (Revoke catalog role grant) = stays-done _ _ (λ one. refl)
    issues (Access path act) = inl refl

    -- what a caller may do is the same with the command's time and charge
    stamped-session : (after : Rows) (time : ℕ) (text : List ℕ) → session_of after time text ≡ session_of (stamped s command after) time text
    unfolding session_of
    stamped-session after time text = refl

    stamped-may : (after : Rows) (time : ℕ) (caller : Caller) (need : Need) → caller_may after time caller need ≡ caller_may (stamped s command after) time caller need
    stamped-may after time Nobody need = refl
    stamped-may after time (Bearer text) need =
        ap (λ found. session_may after found need) (stamped-session after time text)
    stamped-may after time Setup need = refl

    -- so it is of the state after the command
    module _ (token : TokenRow) (new : knows token_serial token.serial s.tokens.tokens ≡ false) where
      old : {A : Type 0} (rows : List TokenRow) → rows ≡ s.tokens.tokens → row_of token_serial token.serial rows ≡ Some token → A
      old rows same found =
          absurd (true≢false (sym (sym (is_some-row_of token_serial token.serial s.tokens.tokens) ∙ ap is_some (ap (row_of token_serial token.serial) (sym same) ∙ found)) ∙ new))

      of-action : (after : Rows) → Issues after → row_of token_serial token.serial after.tokens.tokens ≡ Some token → IsOwn after token
      of-action after (inl stays) found = old after.tokens.tokens stays found
      of-action after (inr one) found =
          subst (IsOwn after) (found-last token.serial s.tokens.tokens one.token token new (ap (row_of token_serial token.serial) (sym one.tokens) ∙ found)) one.own

      of-rules : (first : Option Refusal) (after : Rows) → Issues after → row_of token_serial token.serial (rows_by first s after).tokens.tokens ≡ Some token → IsOwn (rows_by first s after) token
      of-rules None after issued found = of-action after issued found
      of-rules (Some why) after issued found = old s.tokens.tokens refl found

      of-next : (full : Option Refusal) (rows : Rows) → (row_of token_serial token.serial rows.tokens.tokens ≡ Some token → IsOwn rows token) → row_of token_serial token.serial (next_by full s (stamped s command rows)).tokens.tokens ≡ Some token → IsOwn (next_by full s (stamped s command rows)) token
      of-next (Some why) rows own found = old s.tokens.tokens refl found
      of-next None rows own found =
          let is = own found in
          record {
            table = is.table;
            there = is.there;
            moves = is.moves;
            location = is.location;
            write = is.write ∙ stamped-may rows (time_of s command) command.caller (record { privilege = TableWriteData; on = securable.Table token.table });
            expires = is.expires;
          }

      of-command : row_of token_serial token.serial (next_state s command).tokens.tokens ≡ Some token → IsOwn (next_state s command) token
      unfolding next_state
      of-command found =
          let action = acting s command command.action in
          of-next (run_full s command.charge) (rows_by (first_refusal (rules_within action)) s action.after) (of-rules (first_refusal (rules_within action)) action.after (issues command.action)) found

pub issued-own : (s : Rows) (command : Command) (token : TokenRow) → IsSound s → IsIssuedBy s command token → IsOfItsTable s command token
issued-own s command token sound issued =
    let own = of-command s command sound token issued.new issued.there in
    record { table = own.table; there = own.there; moves = own.moves; location = own.location; write = own.write; expires = own.expires }

-- a storage token that may open anything lies where its table lies
pub open-lies : (s : Rows) (token : TokenRow) (table : TableRow) → IsSound s → row_of token_serial token.serial s.tokens.tokens ≡ Some token → row_of table_id token.table s.content.tables ≡ Some table → is_current s token ≡ true → token.location ≡ table.location
open-lies s token table sound found there current =
    let fits : FitsTable s.content.tables token = found-holds (FitsTable s.content.tables) (has_id token_serial token.serial) s.tokens.tokens token sound.orderly.tokens_fit found in
    let fit : IsFit token table = subst (FitsFound token) there fits in
    let moves = eqb-true table.moves token.moves (sym (ap (has_moves token.moves) there) ∙ current) in
    fit.location (sym moves)
