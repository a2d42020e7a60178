-- A sound state with one more session or storage token is sound.
use Rattle.std.proofs.Common.{◌≡◌, ℕ, ◌<◌, true, false, ◌&&◌, ◌||◌, nat_eq, nat_lt, List, [], ◌∷◌, ◌++◌, Option, None, Some, refl, sym, ap, subst, ◌∙◌, arith, inl, inr}
use Rattle.std.specs.Cmp.Lexicographic.{bytes_decides, pointwise_decides}
use Rattle.std.proofs.lemmas.Bool.{and_parts, eqb-true, ne_eqb}
use Rattle.std.proofs.lemmas.Bool.Decides.{Decides-and, Decides-eqb, Decides-ltb, Decides-or}
use Rattle.pol_access.proofs.KeptLemmas.{knows-push}
use Rattle.pol_content.specs.declared.change.Change.TheVariants.{PutSession, PutTable, PutToken}
use Rattle.pol_content.proofs.TiesLemmas.{row_of-put}
use Rattle.pol_names.specs.declared.scope.Scope.{Scope}
use Rattle.pol_names.specs.declared.scope.Scope.TheVariants as scope
use Rattle.pol_sound_access.specs.Judged.{is_given}
use Rattle.pol_sound_access.proofs.DecidedLemmas.{each, given}
use Rattle.pol_access_steps.specs.Counters.{counted, is_new_serial, may_follow}
use Rattle.pol_sound_steps.specs.Steps.{is_issued, may_issue, may_issue_of, may_open}
use Rattle.pol_access_steps.specs.declared.counters.Counters.{Counters}
use Rattle.pol_access_steps.proofs.CountersLemmas.{counted-sound, new-serial, sessions-below, tokens-below}
use Rattle.pol_soundness.specs.Judged.{are_given, fits_found, fits_table, is_fit, is_session, is_token, same_place}
use Rattle.pol_state.specs.Applied.{changed}
use Rattle.pol_state.specs.Bounds.{over_limit}
use Rattle.pol_state.specs.Rows.{Rows}
use Rattle.pol_state.specs.Sound.{FitsFound, FitsTable, IsFit, IsGiven, IsSessionOf, IsSound, IsTokenOf, NamesGiven}
use Rattle.pol_table_rows.specs.Tables.{table_id}
use Rattle.pol_table_rows.specs.declared.row.TableRow.{TableRow}
use Rattle.pol_tables.specs.Rising.{KeysBelow}
use Rattle.pol_tables.specs.Table.{has_id, knows, row_of, rows_with}
use Rattle.pol_tables.proofs.ListLemmas.{each-join, each-push}
use Rattle.pol_tables.proofs.RisingLemmas.{knows-below, KeysRise-push}
use Rattle.pol_tokens.specs.Tokens.{TokenRows, serial_of, token_serial}
use Rattle.pol_tokens.specs.declared.session.SessionRow.{SessionRow}
use Rattle.pol_tokens.specs.declared.token.TokenRow.{TokenRow}
use Rattle.pol_tokens.proofs.HeldLemmas.{once-new}

module _ (t : Rows) (sound : IsSound t) where
  -- a session whose serial is above all others
  abbrev with_sessions : List SessionRow → Rows
  with_sessions rows = record t { tokens = record t.tokens { sessions = rows } }

  pub session-put : (row : SessionRow) → KeysBelow serial_of row.serial t.tokens.sessions → KeysBelow token_serial row.serial t.tokens.tokens → IsSessionOf t.next_id t.next_serial row → IsSound (changed t (PutSession row))
  unfolding over_limit
  session-put row sessions tokens is =
      subst (λ rows. IsSound (with_sessions rows)) (sym (once-new serial_of row t.tokens.sessions (knows-below serial_of row.serial t.tokens.sessions sessions))) (record {
        orderly = record {
          access = sound.orderly.access;
          content = sound.orderly.content;
          ties = sound.orderly.ties;
          tokens = record {
            sessions_rise = KeysRise-push serial_of row t.tokens.sessions sound.orderly.tokens.sessions_rise sessions;
            sessions = each-push (IsSessionOf t.next_id t.next_serial) t.tokens.sessions row sound.orderly.tokens.sessions is;
            tokens_rise = sound.orderly.tokens.tokens_rise;
            tokens = sound.orderly.tokens.tokens;
            serials_differ = each-join (λ kept. token_serial kept < row.serial) (λ kept. knows serial_of kept.serial t.tokens.sessions ≡ false) (λ kept. knows serial_of kept.serial (t.tokens.sessions ++ row ∷ []) ≡ false) t.tokens.tokens differs tokens sound.orderly.tokens.serials_differ;
          };
          tokens_fit = sound.orderly.tokens_fit;
          time_bound = sound.orderly.time_bound;
          charged_bound = sound.orderly.charged_bound;
        };
        within = sound.within;
      })
    where
      differs : (kept : TokenRow) → kept.serial < row.serial → knows serial_of kept.serial t.tokens.sessions ≡ false → knows serial_of kept.serial (t.tokens.sessions ++ row ∷ []) ≡ false
      differs kept below none =
          let other : has_id serial_of kept.serial row ≡ false = ne_eqb kept.serial row.serial (λ same. omega (arith, below, same)) in
          knows-push serial_of kept.serial row t.tokens.sessions ∙ (λ i. none i || other i)

  -- a storage token whose serial is above all others, and that fits its table
  abbrev with_tokens : List TokenRow → Rows
  with_tokens rows = record t { tokens = record t.tokens { tokens = rows } }

  pub token-put : (row : TokenRow) → KeysBelow serial_of row.serial t.tokens.sessions → KeysBelow token_serial row.serial t.tokens.tokens → IsTokenOf t.next_id t.next_serial row → FitsTable t.content.tables row → IsSound (changed t (PutToken row))
  unfolding over_limit
  token-put row sessions tokens is fits =
      subst (λ rows. IsSound (with_tokens rows)) (sym (once-new token_serial row t.tokens.tokens (knows-below token_serial row.serial t.tokens.tokens tokens))) (record {
        orderly = record {
          access = sound.orderly.access;
          content = sound.orderly.content;
          ties = sound.orderly.ties;
          tokens = record {
            sessions_rise = sound.orderly.tokens.sessions_rise;
            sessions = sound.orderly.tokens.sessions;
            tokens_rise = KeysRise-push token_serial row t.tokens.tokens sound.orderly.tokens.tokens_rise tokens;
            tokens = each-push (IsTokenOf t.next_id t.next_serial) t.tokens.tokens row sound.orderly.tokens.tokens is;
            serials_differ = each-push (λ kept. knows serial_of kept.serial t.tokens.sessions ≡ false) t.tokens.tokens row sound.orderly.tokens.serials_differ (knows-below serial_of row.serial t.tokens.sessions sessions);
          };
          tokens_fit = each-push (FitsTable t.content.tables) t.tokens.tokens row sound.orderly.tokens_fit fits;
          time_bound = sound.orderly.time_bound;
          charged_bound = sound.orderly.charged_bound;
        };
        within = sound.within;
      })

-- what the tests tell
scope-told : (next_id : ℕ) (scope : Scope) → are_given next_id scope ≡ true → NamesGiven next_id scope
scope-told next_id scope.All is = tt
scope-told next_id (scope.Roles roles) is = (each (is_given next_id) (IsGiven next_id) (given next_id) roles).0 is

session-told : (next_id next_serial : ℕ) (row : SessionRow) → row.serial < next_serial → is_session next_id row ≡ true → IsSessionOf next_id next_serial row
session-told next_id next_serial row below is =
    let both = and_parts (is_given next_id row.principal) (are_given next_id row.scope) is in
    record {
      below = below;
      principal = (given next_id row.principal).0 both.0;
      scope = scope-told next_id row.scope both.1;
    }

token-told : (next_id next_serial : ℕ) (row : TokenRow) → row.serial < next_serial → is_token next_id row ≡ true → IsTokenOf next_id next_serial row
token-told next_id next_serial row below is =
    let both = and_parts (is_given next_id row.principal) (is_given next_id row.table) is in
    record {
      below = below;
      principal = (given next_id row.principal).0 both.0;
      table = (given next_id row.table).0 both.1;
    }

fit-told : (token : TokenRow) (table : TableRow) → is_fit token table ≡ true → IsFit token table
fit-told token table is =
    let fewer = nat_lt token.moves table.moves in
    let as_many = nat_eq token.moves table.moves in
    let there = same_place token.location table.location in
    elim ((Decides-or fewer (as_many && there) (Decides-ltb token.moves table.moves) (Decides-and as_many there (Decides-eqb token.moves table.moves) (pointwise_decides bytes_decides token.location table.location))).0 is) [
      | inl less ↦ record { moves = omega (arith, less); location = λ same. absurd (omega (arith, less, same)) }
      | inr both ↦ record { moves = omega (arith, both.0); location = λ same. both.1 }
    ]

found-told : (token : TokenRow) (table : Option TableRow) → fits_found token table ≡ true → FitsFound token table
found-told token None is = tt
found-told token (Some table) is = fit-told token table is

module _ (s : Rows) (sound : IsSound s) (counters : Counters) (follows : may_follow s counters ≡ true) where
  pub opened-sound : (row : SessionRow) → may_open s counters row ≡ true → IsSound (changed (counted s counters) (PutSession row))
  opened-sound row may =
      let both = and_parts (is_new_serial s counters row.serial) (is_session counters.next_id row) may in
      let serial = new-serial s counters row.serial both.0 in
      session-put (counted s counters) (counted-sound s sound counters follows) row (sessions-below s sound row.serial serial.0) (tokens-below s sound row.serial serial.0) (session-told counters.next_id counters.next_serial row serial.1 both.1)

  -- a storage token may be issued of these rows, whose sessions, storage tokens and counters are those before
  issued-put : (t : Rows) (row : TokenRow) → IsSound t → t.tokens ≡ s.tokens → t.next_id ≡ counters.next_id → t.next_serial ≡ counters.next_serial → is_issued s counters row ≡ true → FitsTable t.content.tables row → IsSound (changed t (PutToken row))
  issued-put t row t_sound tokens next_id next_serial issued fits =
      let both = and_parts (is_new_serial s counters row.serial) (is_token counters.next_id row) issued in
      let serial = new-serial s counters row.serial both.0 in
      let is = subst (λ n. IsTokenOf t.next_id n row) (sym next_serial) (subst (λ n. IsTokenOf n counters.next_serial row) (sym next_id) (token-told counters.next_id counters.next_serial row serial.1 both.1)) in
      token-put t t_sound row (subst (λ (rows : TokenRows). KeysBelow serial_of row.serial rows.sessions) (sym tokens) (sessions-below s sound row.serial serial.0)) (subst (λ (rows : TokenRows). KeysBelow token_serial row.serial rows.tokens) (sym tokens) (tokens-below s sound row.serial serial.0)) is fits

  pub issued-sound : (row : TokenRow) → may_issue s counters row ≡ true → IsSound (changed (counted s counters) (PutToken row))
  issued-sound row may =
      let both = and_parts (is_issued s counters row) (fits_table s.content.tables row) may in
      issued-put (counted s counters) row (counted-sound s sound counters follows) refl refl refl both.0 (found-told row (row_of table_id row.table s.content.tables) both.1)

  -- and of a table that was put before it
  pub issued_of-sound : (table : TableRow) (row : TokenRow) → IsSound (changed (counted s counters) (PutTable table)) → may_issue_of s counters table row ≡ true → IsSound (changed (changed (counted s counters) (PutTable table)) (PutToken row))
  issued_of-sound table row placed may =
      let both = and_parts (is_issued s counters row) (nat_eq row.table table.id && is_fit row table) may in
      let fits = and_parts (nat_eq row.table table.id) (is_fit row table) both.1 in
      let there = ap (λ id. row_of table_id id (rows_with table_id table s.content.tables)) (eqb-true row.table table.id fits.0) ∙ row_of-put table_id table s.content.tables in
      issued-put (changed (counted s counters) (PutTable table)) row placed refl refl refl both.0 (subst (FitsFound row) (sym there) (fit-told row table fits.1))
