-- The live sessions of a state: a caller's session is found among them as among all.
use Rattle.std.proofs.Common.{◌≡◌, ℕ, ◌<◌, ◌≤◌, ◌^◌, Bool, true, false, cond, ◌&&◌, List, [], ◌∷◌, filter, None, nat_lt, refl, sym, ap, ◌∙◌, arith, true≢false}
use Rattle.std.specs.Int.{from_be_bytes, to_be_bytes, w64}
use Rattle.std.specs.List.{find, AllByRecursion}
use Rattle.std.proofs.lemmas.Bool.{and_parts, lt-ltb, ltb-true, or_parts}
use Rattle.std.proofs.lemmas.Nat.{from_be_bytes-to_be_bytes_8}
use Rattle.std.proofs.lemmas.Slice.Eq.{bytes_eq-Decides}
use Rattle.pol_access.specs.Access.{principal_id}
use Rattle.pol_tables.specs.Rising.{KeysRise}
use Rattle.pol_tables.specs.Table.{has_id, knows}
use Rattle.pol_tables.proofs.ListLemmas.{each-all, each-filter, each-join, each-weaken}
use Rattle.pol_tables.proofs.RisingLemmas.{KeysRise-filter, rise_head, rise_tail}
use Rattle.pol_tokens.specs.Text.{text_of_token}
use Rattle.pol_tokens.specs.Tokens.{has_text, serial_of, token_serial}
use Rattle.pol_tokens.specs.declared.session.SessionRow.{SessionRow}
use Rattle.pol_tokens.specs.declared.token.TokenRow.{TokenRow}
use Rattle.pol_tokens.proofs.TextLemmas.{decode-serial}
use Rattle.pol_state.specs.Bounds.{over_limit}
use Rattle.pol_state.specs.Rows.{Rows}
use Rattle.pol_state.specs.Sound.{FitsTable, IsTokenOf, IsSessionOf, IsSound}
use Rattle.pol_state.proofs.BoundsLemmas.{next_serial_bound}
use Rattle.pol_rules.specs.Rules.{kept_if, session_of}
use Rattle.pol_rules.specs.Live.{is_unexpired, is_live, live_part, Agree}

-- of what passes a test, a filter by a weaker one leaves out nothing
pub filter-weaker : {X : Type 0} (test weaker : X → Bool) (xs : List X) → AllByRecursion (λ x. test x ≡ true → weaker x ≡ true) xs → filter test (filter weaker xs) ≡ filter test xs
filter-weaker test weaker [] all = refl
filter-weaker test weaker (x ∷ xs) all = by (weaker x) (test x) refl refl (filter-weaker test weaker xs all.1)
  where
    by : (w t : Bool) → weaker x ≡ w → test x ≡ t → filter test (filter weaker xs) ≡ filter test xs → filter test (filter weaker (x ∷ xs)) ≡ filter test (x ∷ xs)
    by true t weak is rest = rw weak (ap (λ kept. cond (test x) (x ∷ kept) kept) rest)
    by false true weak is rest = absurd (true≢false (sym (all.0 is) ∙ weak))
    by false false weak is rest = rw (weak, is) rest

-- an id that no row has is no row's among those that stay
unknown-filtered : {R : Type 0} (key : R → ℕ) (keep : R → Bool) (id : ℕ) (rows : List R) → knows key id rows ≡ false → knows key id (filter keep rows) ≡ false
unknown-filtered key keep id [] none = refl
unknown-filtered key keep id (row ∷ rows) none =
    let parts = or_parts (has_id key id row) (knows key id rows) none in
    by (keep row) parts.0 (unknown-filtered key keep id rows parts.1)
  where
    by : (b : Bool) → has_id key id row ≡ false → knows key id (filter keep rows) ≡ false → knows key id (cond b (row ∷ filter keep rows) (filter keep rows)) ≡ false
    by true other rest = rw other rest
    by false other rest = rest

-- past an item that passes the test, none does
abbrev pub OnePasses : {X : Type 0} → (X → Bool) → List X → Type 0
OnePasses test [] = Unit {0}
OnePasses test (x ∷ xs) = (test x ≡ true → AllByRecursion (λ y. test y ≡ false) xs) × OnePasses test xs

-- an item that alone passes a test, and passes a second one, is found among those that stay
module _ {X : Type 0} (test also stay : X → Bool) where
  found-none : (xs : List X) → AllByRecursion (λ x. test x ≡ false) xs → find test (filter stay xs) ≡ None
  found-none [] fail = refl
  found-none (x ∷ xs) fail = by (stay x) refl (found-none xs fail.1)
    where
      by : (s : Bool) → stay x ≡ s → find test (filter stay xs) ≡ None → find test (filter stay (x ∷ xs)) ≡ None
      by true stays rest = rw (stays, fail.0) rest
      by false leaves rest = rw leaves rest

  pub kept-stays : (xs : List X) → OnePasses test xs → AllByRecursion (λ x. test x ≡ true → also x ≡ true → stay x ≡ true) xs → kept_if also (find test (filter stay xs)) ≡ kept_if also (find test xs)
  kept-stays [] one all = refl
  kept-stays (x ∷ xs) one all = by (stay x) (test x) (also x) refl refl refl (kept-stays xs one.1 all.1)
    where
      by : (s t a : Bool) → stay x ≡ s → test x ≡ t → also x ≡ a → kept_if also (find test (filter stay xs)) ≡ kept_if also (find test xs) → kept_if also (find test (filter stay (x ∷ xs))) ≡ kept_if also (find test (x ∷ xs))
      by true true a stays passes is rest = rw (stays, passes) refl
      by true false a stays fails is rest = rw (stays, fails) rest
      by false true true leaves passes is rest = absurd (true≢false (sym (all.0 passes is) ∙ leaves))
      by false true false leaves passes is rest =
          rw (leaves, passes, is, found-none xs (one.0 passes)) refl
      by false false a leaves fails is rest = rw (leaves, fails) rest

-- tokens with one text have one serial, whatever their words are
serial-told : (serial word_a word_b other other_a other_b : ℕ) → serial < 2 ^ 64 → other < 2 ^ 64 → text_of_token serial word_a word_b ≡ text_of_token other other_a other_b → serial ≡ other
serial-told serial word_a word_b other other_a other_b fits other_fits is =
    let first = decode-serial serial word_a word_b in
    let read = rw is at first in
    let both = sym read ∙ decode-serial other other_a other_b in
    let bytes : to_be_bytes w64 serial ≡ to_be_bytes w64 other = cc in
    sym (from_be_bytes-to_be_bytes_8 serial fits) ∙ ap (from_be_bytes w64) bytes ∙ from_be_bytes-to_be_bytes_8 other other_fits

-- sessions looked up by a text at a time
module _ (text : List ℕ) (time : ℕ) where
  abbrev pub is_sought : SessionRow → Bool
  is_sought row = has_text text row && nat_lt time row.expires

  text_is : (row : SessionRow) → is_sought row ≡ true → text ≡ text_of_token row.serial row.word_a row.word_b
  text_is row sought =
      (bytes_eq-Decides text (text_of_token row.serial row.word_a row.word_b)).0 (and_parts (has_text text row) (nat_lt time row.expires) sought).0

  later-fails : (row later : SessionRow) → is_sought row ≡ true → row.serial < 2 ^ 64 → row.serial < later.serial → later.serial < 2 ^ 64 → is_sought later ≡ false
  later-fails row later sought fits above later_fits = by (is_sought later) refl
    where
      by : (b : Bool) → is_sought later ≡ b → is_sought later ≡ false
      by false fails = fails
      by true passes =
          let same = serial-told row.serial row.word_a row.word_b later.serial later.word_a later.word_b fits later_fits (sym (text_is row sought) ∙ text_is later passes) in
          absurd (omega (arith, same, above))

  -- where serials rise, one session has the text
  one-sought : (rows : List SessionRow) → KeysRise serial_of rows → AllByRecursion (λ row. row.serial < 2 ^ 64) rows → OnePasses is_sought rows
  one-sought [] rise fit = tt
  one-sought (row ∷ rows) rise fit = (
    λ sought. each-join (λ later. row.serial < later.serial) (λ later. later.serial < 2 ^ 64) (λ later. is_sought later ≡ false) rows (λ later above fits. later-fails row later sought fit.0 above fits) (rise_head serial_of row rows rise) fit.1,
    one-sought rows (rise_tail serial_of row rows rise) fit.1,
  )

module _ (s : Rows) where
  -- a session that counts at a later time is live
  pub live-before : (time : ℕ) (row : SessionRow) → s.time ≤ time → nat_lt time row.expires ≡ true → knows principal_id row.principal s.access.principals ≡ true → is_live s row ≡ true
  live-before time row later lasts there =
      let unexpired = ltb-true time row.expires lasts in
      rw (lt-ltb s.time row.expires (omega (arith, later, unexpired)), there) refl

  -- and so is a storage token
  pub unexpired-before : (time : ℕ) (row : TokenRow) → s.time ≤ time → nat_lt time row.expires ≡ true → is_unexpired s row ≡ true
  unexpired-before time row later lasts =
      let unexpired = ltb-true time row.expires lasts in
      lt-ltb s.time row.expires (omega (arith, later, unexpired))

  -- the live part's live part is itself
  pub live-agrees : Agree (live_part s) s
  live-agrees =
      λ i. record s { tokens = record { sessions = filter-weaker (is_live s) (is_live s) s.tokens.sessions (each-all (λ row. is_live s row ≡ true → is_live s row ≡ true) s.tokens.sessions (λ row is. is)) i; tokens = filter-weaker (is_unexpired s) (is_unexpired s) s.tokens.tokens (each-all (λ row. is_unexpired s row ≡ true → is_unexpired s row ≡ true) s.tokens.tokens (λ row is. is)) i } }

  module _ (sound : IsSound s) where
    serials-fit : AllByRecursion (λ row. row.serial < 2 ^ 64) s.tokens.sessions
    serials-fit =
        each-weaken (IsSessionOf s.next_id s.next_serial) (λ row. row.serial < 2 ^ 64) s.tokens.sessions (λ row known. omega (arith, known.below, next_serial_bound s sound)) sound.orderly.tokens.sessions

    -- from the state's time on, the live sessions have that of a caller
    pub session-live : (time : ℕ) (text : List ℕ) → s.time ≤ time → session_of (live_part s) time text ≡ session_of s time text
    unfolding session_of
    session-live time text later =
        kept-stays (is_sought text time) (λ row. knows principal_id row.principal s.access.principals) (is_live s) s.tokens.sessions (one-sought text time s.tokens.sessions sound.orderly.tokens.sessions_rise serials-fit)
        (each-all (λ row. is_sought text time row ≡ true → knows principal_id row.principal s.access.principals ≡ true → is_live s row ≡ true) s.tokens.sessions (λ row sought there. live-before time row later (and_parts (has_text text row) (nat_lt time row.expires) sought).1 there))

    -- the live part is sound
    pub live-sound : IsSound (live_part s)
    unfolding over_limit
    live-sound = record {
      orderly = record {
        access = sound.orderly.access;
        content = sound.orderly.content;
        ties = sound.orderly.ties;
        tokens = record {
          sessions_rise = KeysRise-filter serial_of (is_live s) s.tokens.sessions sound.orderly.tokens.sessions_rise;
          sessions = each-filter (IsSessionOf s.next_id s.next_serial) (is_live s) s.tokens.sessions sound.orderly.tokens.sessions;
          tokens_rise = KeysRise-filter token_serial (is_unexpired s) s.tokens.tokens sound.orderly.tokens.tokens_rise;
          tokens = each-filter (IsTokenOf s.next_id s.next_serial) (is_unexpired s) s.tokens.tokens sound.orderly.tokens.tokens;
          serials_differ = each-filter _ (is_unexpired s) s.tokens.tokens (each-weaken (λ row. knows serial_of row.serial s.tokens.sessions ≡ false) (λ row. knows serial_of row.serial (filter (is_live s) s.tokens.sessions) ≡ false) s.tokens.tokens (λ row. unknown-filtered serial_of (is_live s) row.serial s.tokens.sessions) sound.orderly.tokens.serials_differ);
        };
        tokens_fit = each-filter (FitsTable s.content.tables) (is_unexpired s) s.tokens.tokens sound.orderly.tokens_fit;
        time_bound = sound.orderly.time_bound;
        charged_bound = sound.orderly.charged_bound;
      };
      within = sound.within;
    }
