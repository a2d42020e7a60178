-- What each action on storage tokens owes.
use Rattle.std.proofs.Common.{◌≡◌, ℕ, ◌+◌, Bool, false, List, [], ◌∷◌, ◌++◌, filter, Option, None, Some, option_and_then, option_map, refl, sym, ap, subst, ◌∙◌, arith}
use Rattle.std.proofs.lemmas.List.Elements.{filter-append}
use Rattle.pol_access.specs.declared.securable.Securable.{Securable}
use Rattle.pol_access.specs.declared.securable.Securable.TheVariants as securable
use Rattle.pol_commands.specs.declared.command.Command.{Command}
use Rattle.pol_commands.specs.declared.create_table.CreateTable.{CreateTable}
use Rattle.pol_commands.specs.declared.reply.Answer.{Answer}
use Rattle.pol_commands.specs.declared.reply.Answer.TheVariants.{CredentialsLoaded}
use Rattle.pol_names.specs.declared.identifier.Identifier.{Identifier}
use Rattle.pol_table_rows.specs.Tables.{table_id}
use Rattle.pol_table_rows.specs.declared.row.TableRow.{TableRow}
use Rattle.pol_tables.specs.Table.{row_of}
use Rattle.pol_tables.proofs.RisingLemmas.{knows-below}
use Rattle.pol_tokens.specs.Issued.{issued}
use Rattle.pol_tokens.specs.Tokens.{token_serial}
use Rattle.pol_tokens.specs.declared.token.Act.{Act}
use Rattle.pol_tokens.specs.declared.token.TokenRow.{TokenRow}
use Rattle.pol_tokens.proofs.HeldLemmas.{once-new}
use Rattle.pol_state.specs.Bounds.{over_limit, EachPasses}
use Rattle.pol_state.specs.Rows.{Rows}
use Rattle.pol_state.specs.Sound.{IsGiven, IsOrderly, IsSound}
use Rattle.pol_rules.specs.Acting.{done, stamped, Acting}
use Rattle.pol_rules.specs.Live.{is_live, is_unexpired, live_part}
use Rattle.pol_rules.specs.Prologues.{namespace_row_at, table_row_at}
use Rattle.pol_rules.specs.Rules.{time_of}
use Rattle.pol_rules.specs.TableRules.{location_asked}
use Rattle.pol_rules.proofs.FairLemmas.{none-fair, ◌⊳◌, fair-at_table, fair-bad_creation, fair-bad_location, fair-given, fair-inside, fair-location_outside, fair-location_overlap, fair-name_taken, fair-other_format, fair-staged}
use Rattle.pol_rules.proofs.FoundLemmas.{found-holds}
use Rattle.pol_rules.proofs.LeadsLemmas.{leads-by, leads-same, Leads}
use Rattle.pol_rules.proofs.LiveLemmas.{live-sound}
use Rattle.pol_rules.proofs.OwesLemmas.{live-after, none-returns, owes-done, owes-reading, owes-same, tokens-after, with_tokens, DoSame, Owes, OwesRows}
use Rattle.pol_rules.proofs.SoundLemmas.{next_id-some, orderly-done, stamped-orderly, IsWithin}
use Rattle.pol_table_actions.specs.Creation.{metadata_at, new_table, with_table}
use Rattle.pol_table_actions.specs.Loading.{loaded_with}
use Rattle.pol_table_actions.proofs.ActionLemmas.{orderly-placed, placed-id, table-own}
use Rattle.pol_token_rules.specs.Counts.{holder}
use Rattle.pol_token_rules.proofs.FairTokenLemmas.{fair-at_table_data, fair-on_namespace_data, fair-opened, fair-token_unknown, fair-too_many_tokens, holder-live, may_write-live}
use Rattle.pol_token_rules.proofs.HolderLemmas.{holder-given}
use Rattle.pol_token_actions.specs.Access.{access}
use Rattle.pol_token_actions.specs.Vending.{create_delegated, load_credentials, load_delegated, loaded_as, new_token, token_at, token_new, token_with, with_both, with_token, with_token_at, with_token_new}
use Rattle.pol_token_actions.proofs.ChangesLemmas.{below, both_changes, token_changes}
use Rattle.pol_token_actions.proofs.IssuedLemmas.{fits-issued, issued-orderly, put-there}

module _ (s : Rows) (command : Command) where
  abbrev live : Rows
  live = live_part s

  -- each action owes this, where it is like in the live part
  abbrev OwesAlike : (Rows → Acting) → Type 0
  OwesAlike act = Owes s command (act s) (act live)

  -- the storage tokens that are live after one is issued were live before, or are the new one
  tokens-pushed : (after : Rows) (row : TokenRow) → filter (is_unexpired (stamped s command after)) (s.tokens.tokens ++ row ∷ []) ≡ filter (is_unexpired (stamped s command after)) (filter (is_unexpired s) s.tokens.tokens ++ row ∷ [])
  tokens-pushed after row =
      filter-append (is_unexpired (stamped s command after)) s.tokens.tokens (row ∷ [])
      ∙ ap (λ kept. kept ++ filter (is_unexpired (stamped s command after)) (row ∷ [])) (tokens-after s command after)
      ∙ sym (filter-append (is_unexpired (stamped s command after)) (filter (is_unexpired s) s.tokens.tokens) (row ∷ []))

  -- the changes lead to the rows with a storage token, in the state and in its live part
  leads-token : IsSound s → (row : TokenRow) → row.serial ≡ s.next_serial → Leads s command (with_token s row)
  leads-token sound row serial =
      leads-by s command (with_token s row) _ (token_changes s command sound row serial) (λ i. record (with_token s row) { tokens = record s.tokens { tokens = once-new token_serial row s.tokens.tokens (knows-below token_serial row.serial s.tokens.tokens (below s command sound row serial)) i }; time = time_of s command })

  same-token : IsSound s → (row : TokenRow) → row.serial ≡ s.next_serial → DoSame s (stamped s command (with_token s row)) (stamped live command (with_token live row))
  same-token sound row serial =
      let after : Rows = stamped s command (with_token s row) in
      record {
        changes = token_changes s command sound row serial ∙ sym (token_changes live command (live-sound s sound) row serial);
        agree = λ i. with_tokens (record { sessions = live-after s command s (none-returns s command) i; tokens = tokens-pushed (with_token s row) row i }) after;
      }

  -- and to those with a new table and a storage token
  leads-both : IsSound s → (table : TableRow) (row : TokenRow) → table.id ≡ s.next_id → row.serial ≡ s.next_serial → Leads s command (with_both s table row)
  leads-both sound table row id serial =
      leads-by s command (with_both s table row) _ (both_changes s command sound row serial table id) (λ i. record (with_both s table row) { tokens = record s.tokens { tokens = once-new token_serial row s.tokens.tokens (knows-below token_serial row.serial s.tokens.tokens (below s command sound row serial)) i }; time = time_of s command })

  same-both : IsSound s → (table : TableRow) (row : TokenRow) → table.id ≡ s.next_id → row.serial ≡ s.next_serial → DoSame s (stamped s command (with_both s table row)) (stamped live command (with_both live table row))
  same-both sound table row id serial =
      let after : Rows = stamped s command (with_both s table row) in
      record {
        changes = both_changes s command sound row serial table id ∙ sym (both_changes live command (live-sound s sound) row serial table id);
        agree = λ i. with_tokens (record { sessions = live-after s command s (none-returns s command) i; tokens = tokens-pushed (with_both s table row) row i }) after;
      }

  bounds-token : (row : TokenRow) → over_limit (with_token s row) ≡ over_limit (with_token live row)
  unfolding over_limit
  bounds-token row = refl

  bounds-both : (table : TableRow) (row : TokenRow) → over_limit (with_both s table row) ≡ over_limit (with_both live table row)
  unfolding over_limit
  bounds-both table row = refl

  -- a storage token is the same one in the live part
  module _ (a b : ℕ) (on : Securable) (table : TableRow) where
    abbrev issued_to : ℕ → TokenRow
    issued_to principal = token_with s command a b on table principal

    abbrev issued_in : Rows → Option TokenRow
    issued_in t = option_map (token_with t command a b on table) (holder t command)

    issued-live : IsSound s → issued_in s ≡ issued_in live
    issued-live sound =
        λ i. option_map (λ principal. issued table principal (may_write-live command sound on i) (time_of s command) (record { serial = s.next_serial; word_a = a; word_b = b })) (holder-live command sound i)

    -- what is owed of the rows with it
    owes-token : OwesRows s command (done s (issued_in s) (with_token s)) (done live (issued_in live) (with_token live))
    owes-token = record {
      leads = λ sound. leads sound (holder s command);
      same = λ sound. subst (λ found. DoSame s (stamped s command (done s (issued_in s) (with_token s))) (stamped live command (done live found (with_token live)))) (issued-live sound) (same sound (holder s command));
      bounds = λ sound. subst (λ found. over_limit (done s (issued_in s) (with_token s)) ≡ over_limit (done live found (with_token live))) (issued-live sound) (bounds sound (holder s command));
    }
      where
        leads : IsSound s → (found : Option ℕ) → Leads s command (done s (option_map issued_to found) (with_token s))
        leads sound None = leads-same s command
        leads sound (Some principal) = leads-token sound (issued_to principal) refl

        same : IsSound s → (found : Option ℕ) → DoSame s (stamped s command (done s (option_map issued_to found) (with_token s))) (stamped live command (done live (option_map issued_to found) (with_token live)))
        same sound None = (owes-same s command).same sound
        same sound (Some principal) = same-token sound (issued_to principal) refl

        bounds : IsSound s → (found : Option ℕ) → over_limit (done s (option_map issued_to found) (with_token s)) ≡ over_limit (done live (option_map issued_to found) (with_token live))
        bounds sound None = (owes-same s command).bounds sound
        bounds sound (Some principal) = bounds-token (issued_to principal)

    -- and with its new table
    owes-both : table.id ≡ s.next_id → OwesRows s command (done s (issued_in s) (with_both s table)) (done live (issued_in live) (with_both live table))
    owes-both id = record {
      leads = λ sound. leads sound (holder s command);
      same = λ sound. subst (λ found. DoSame s (stamped s command (done s (issued_in s) (with_both s table))) (stamped live command (done live found (with_both live table)))) (issued-live sound) (same sound (holder s command));
      bounds = λ sound. subst (λ found. over_limit (done s (issued_in s) (with_both s table)) ≡ over_limit (done live found (with_both live table))) (issued-live sound) (bounds sound (holder s command));
    }
      where
        leads : IsSound s → (found : Option ℕ) → Leads s command (done s (option_map issued_to found) (with_both s table))
        leads sound None = leads-same s command
        leads sound (Some principal) = leads-both sound table (issued_to principal) id refl

        same : IsSound s → (found : Option ℕ) → DoSame s (stamped s command (done s (option_map issued_to found) (with_both s table))) (stamped live command (done live (option_map issued_to found) (with_both live table)))
        same sound None = (owes-same s command).same sound
        same sound (Some principal) = same-both sound table (issued_to principal) id refl

        bounds : IsSound s → (found : Option ℕ) → over_limit (done s (option_map issued_to found) (with_both s table)) ≡ over_limit (done live (option_map issued_to found) (with_both live table))
        bounds sound None = (owes-same s command).bounds sound
        bounds sound (Some principal) = bounds-both table (issued_to principal)

    -- what is answered of it
    answers-live : IsSound s → (answer : TokenRow → Answer) → option_map answer (issued_in s) ≡ option_map answer (issued_in live)
    answers-live sound answer = ap (option_map answer) (issued-live sound)

  -- the same of each table that was found
  found-alike : (found : Option TableRow) (left right : TableRow → Option Answer) → ((table : TableRow) → left table ≡ right table) → option_and_then left found ≡ option_and_then right found
  found-alike None left right alike = refl
  found-alike (Some table) left right alike = alike table

  module _ (sound : IsSound s) (within : IsWithin s command) where
    -- a storage token of a table that is there
    orderly-token : (table : TableRow) → row_of table_id table.id s.content.tables ≡ Some table → IsOrderly (stamped s command (with_token_at s command table))
    orderly-token table there = by (holder s command) refl
      where
        given : IsGiven s.next_id table.id
        given =
            found-holds (λ row. IsGiven s.next_id (table_id row)) _ s.content.tables table sound.orderly.content.tables.numbered.given there

        by : (found : Option ℕ) → holder s command ≡ found → IsOrderly (stamped s command (done s (option_map (token_with s command command.words.a command.words.b (securable.Table table.id) table) found) (with_token s)))
        by None is = stamped-orderly s command sound.orderly within
        by (Some principal) is =
            issued-orderly (stamped s command s) (stamped-orderly s command sound.orderly within) (token_with s command command.words.a command.words.b (securable.Table table.id) table principal) refl (holder-given s sound command principal is) given
            (fits-issued s command command.words.a command.words.b (securable.Table table.id) table principal s.content.tables there)

    -- and of a new one
    orderly-both : (table : TableRow) → table.id ≡ s.next_id → IsOrderly (stamped s command (with_table s table)) → IsOrderly (stamped s command (with_token_new s command table))
    orderly-both table id placed = by (holder s command) refl
      where
        later : (low id : ℕ) → IsGiven low id → IsGiven (low + 1) id
        later low id known = (known.0, omega (arith, known.1))

        by : (found : Option ℕ) → holder s command ≡ found → IsOrderly (stamped s command (done s (option_map (new_token s command table) found) (with_both s table)))
        by None is = stamped-orderly s command sound.orderly within
        by (Some principal) is =
            issued-orderly (stamped s command (with_table s table)) placed (new_token s command table principal) refl (later s.next_id principal (holder-given s sound command principal is))
            (let some = next_id-some s sound in (omega (arith, id, some), omega (arith, id)))
            (fits-issued s command command.words.c command.words.d (securable.Namespace table.namespace) table principal (with_table s table).content.tables (put-there table s.content.tables))

  pub owes-load_delegated : (name : List ℕ) (identifier : Identifier) (refs_only : Bool) → OwesAlike (λ t. load_delegated t command name identifier refs_only)
  unfolding table_row_at
  owes-load_delegated name identifier refs_only = record {
    rows = owes-done s command (table_row_at s name identifier) (with_token_at s command) (with_token_at live command) (λ table found. owes-token command.words.a command.words.b (securable.Table table.id) table);
    orderly = λ sound within passes. orderly-done s command sound within (table_row_at s name identifier) (with_token_at s command) (λ table found. orderly-token sound within table (table-own s command sound name identifier table found));
    fair = fair-at_table_data command _ name identifier (fair-too_many_tokens command ⊳ none-fair);
    answer = λ sound. found-alike (table_row_at s name identifier) _ _ (λ table. answers-live command.words.a command.words.b (securable.Table table.id) table sound (λ row. loaded_with refs_only (Some row) table));
  }

  pub owes-load_credentials : (name : List ℕ) (identifier : Identifier) → OwesAlike (λ t. load_credentials t command name identifier)
  unfolding table_row_at
  owes-load_credentials name identifier = record {
    rows = owes-done s command (table_row_at s name identifier) (with_token_at s command) (with_token_at live command) (λ table found. owes-token command.words.a command.words.b (securable.Table table.id) table);
    orderly = λ sound within passes. orderly-done s command sound within (table_row_at s name identifier) (with_token_at s command) (λ table found. orderly-token sound within table (table-own s command sound name identifier table found));
    fair = fair-at_table command _ name identifier (fair-too_many_tokens command ⊳ none-fair);
    answer = λ sound. found-alike (table_row_at s name identifier) _ _ (λ table. answers-live command.words.a command.words.b (securable.Table table.id) table sound CredentialsLoaded);
  }

  pub owes-create_delegated : (name : List ℕ) (levels : List (List ℕ)) (request : CreateTable) → OwesAlike (λ t. create_delegated t command name levels request)
  unfolding metadata_at namespace_row_at new_table
  owes-create_delegated name levels request = record {
    rows = owes-done s command (new_table s command name levels request) (with_token_new s command) (with_token_new live command) (λ table made. owes-both command.words.c command.words.d (securable.Namespace table.namespace) table (placed-id s command name levels request table made));
    orderly = λ sound within passes. orderly-done s command sound within (new_table s command name levels request) (with_token_new s command) (λ table made. orderly-both sound within table (placed-id s command name levels request table made)
        (orderly-placed s command sound within name levels request table made passes.1.1.1.1.0 passes.1.1.1.1.1.0 passes.1.1.1.1.1.1.1.1.0));
    fair = fair-on_namespace_data command _ name levels (fair-given (namespace_row_at s name levels) (λ namespace. fair-name_taken _ request.name) ⊳ fair-bad_creation request ⊳ fair-inside name (fair-bad_location levels request.location request.name) ⊳ fair-inside name (λ catalog. fair-location_outside (location_asked levels request.location request.name catalog) catalog)
        ⊳ fair-inside name (λ catalog. fair-location_overlap (location_asked levels request.location request.name catalog)) ⊳ fair-too_many_tokens command ⊳ fair-staged request.stage_create ⊳ fair-other_format request.properties ⊳ none-fair);
    answer = λ sound. found-alike (new_table s command name levels request) _ _ (λ table. answers-live command.words.c command.words.d (securable.Namespace table.namespace) table sound (λ row. loaded_with false (Some row) table));
  }

  pub owes-access : (path : List (List ℕ)) (act : Act) → OwesAlike (λ t. access t command path act)
  owes-access path act = owes-reading s command (fair-token_unknown command ⊳ fair-opened command path act ⊳ none-fair)
