-- Counters that follow those of a state, and what is new by them.
use Rattle.std.proofs.Common.{Option, None, Some, is_none, refl, sym, true≢false, ◌≡◌, ℕ, ◌<◌, ◌≤◌, ◌^◌, true, false, ◌&&◌, nat_le, nat_lt, List, ◌∷◌, ap, ◌∙◌, arith}
use Rattle.std.proofs.lemmas.Bool.{and_parts, leb-true, ltb-true}
use Rattle.pol_access.proofs.SoundLemmas.{given-later, more_ids as access_more_ids}
use Rattle.pol_access.specs.Access.{catalog_role_id, principal_id, principal_role_id}
use Rattle.pol_content.proofs.SoundLemmas.{more_ids as content_more_ids}
use Rattle.pol_content.proofs.TiesLemmas.{unknown-from}
use Rattle.pol_content.specs.Ties.{is_access_id}
use Rattle.pol_content.specs.declared.change.Change.{Change}
use Rattle.pol_names.specs.declared.scope.Scope.{Scope}
use Rattle.pol_names.specs.declared.scope.Scope.TheVariants as scope
use Rattle.pol_sound_bounds.specs.Judged.{counters_fit}
use Rattle.pol_access_steps.specs.Counters.{counted, is_new_id, is_new_serial, may_follow}
use Rattle.pol_access_steps.specs.declared.counters.Counters.{Counters}
use Rattle.pol_access_steps.proofs.BoundsLemmas.{fits-of, within-of}
use Rattle.pol_soundness.specs.Base.{rows_after}
use Rattle.pol_state.specs.Applied.{changed}
use Rattle.pol_state.specs.Rows.{Rows}
use Rattle.pol_state.specs.Sound.{IsGiven, IsSessionOf, IsSound, IsSoundTokens, IsTokenOf, NamesGiven}
use Rattle.pol_tables.specs.Numbered.{AreNumbered}
use Rattle.pol_tables.specs.Rising.{KeysBelow}
use Rattle.pol_tables.specs.Table.{knows}
use Rattle.pol_tables.proofs.ListLemmas.{each-weaken}
use Rattle.pol_tables.proofs.NumberedLemmas.{below-next}
use Rattle.pol_tables.proofs.RisingLemmas.{knows-below, KeysBelow-more}
use Rattle.pol_tokens.specs.Tokens.{TokenRows, serial_of, token_serial}

-- sessions and storage tokens where more ids and serials are given out
names-later : (low high : ℕ) (scope : Scope) → low ≤ high → NamesGiven low scope → NamesGiven high scope
names-later low high scope.All more given = tt
names-later low high (scope.Roles roles) more given =
    each-weaken (IsGiven low) (IsGiven high) roles (λ id here. given-later low high id more here) given

tokens-later : (low high first last : ℕ) (tokens : TokenRows) → low ≤ high → first ≤ last → IsSoundTokens low first tokens → IsSoundTokens high last tokens
tokens-later low high first last tokens ids serials sound = record {
  sessions_rise = sound.sessions_rise;
  sessions = each-weaken (IsSessionOf low first) (IsSessionOf high last) tokens.sessions (λ row known. record { below = omega (arith, serials, known.below); principal = given-later low high row.principal ids known.principal; scope = names-later low high row.scope ids known.scope }) sound.sessions;
  tokens_rise = sound.tokens_rise;
  tokens = each-weaken (IsTokenOf low first) (IsTokenOf high last) tokens.tokens (λ row known. record { below = omega (arith, serials, known.below); principal = given-later low high row.principal ids known.principal; table = given-later low high row.table ids known.table }) sound.tokens;
  serials_differ = sound.serials_differ;
}

-- what it says that counters follow those of a state
pub record Follow (s : Rows) (counters : Counters) : Type 0 where
  pub time : counters.time ≤ 2 ^ 62
  pub ids : s.next_id ≤ counters.next_id
  pub serials : s.next_serial ≤ counters.next_serial
  pub fit : counters_fit counters.next_id counters.next_serial ≡ true

pub follow-told : (s : Rows) (counters : Counters) → may_follow s counters ≡ true → Follow s counters
follow-told s counters may =
    let fit = counters_fit counters.next_id counters.next_serial in
    let serials = nat_le s.next_serial counters.next_serial && fit in
    let first = and_parts (nat_le counters.time (2 ^ 62)) (nat_le s.next_id counters.next_id && serials) may in
    let second = and_parts (nat_le s.next_id counters.next_id) serials first.1 in
    let third = and_parts (nat_le s.next_serial counters.next_serial) fit second.1 in
    record {
      time = leb-true counters.time (2 ^ 62) first.0;
      ids = leb-true s.next_id counters.next_id second.0;
      serials = leb-true s.next_serial counters.next_serial third.0;
      fit = third.1;
    }

module _ (s : Rows) (sound : IsSound s) (counters : Counters) (may : may_follow s counters ≡ true) where
  -- the state with them is sound
  pub counted-sound : IsSound (counted s counters)
  counted-sound =
      let follow = follow-told s counters may in
      let f = fits-of s sound in
      record {
        orderly = record {
          access = access_more_ids s.next_id counters.next_id s.access follow.ids sound.orderly.access;
          content = content_more_ids s.next_id counters.next_id s.content follow.ids sound.orderly.content;
          ties = sound.orderly.ties;
          tokens = tokens-later s.next_id counters.next_id s.next_serial counters.next_serial s.tokens follow.ids follow.serials sound.orderly.tokens;
          tokens_fit = sound.orderly.tokens_fit;
          time_bound = follow.time;
          charged_bound = sound.orderly.charged_bound;
        };
        within = within-of (counted s counters) (record { parts = f.parts; holders = f.holders; facts = f.facts; counters = follow.fit; numbers = f.numbers });
      }

-- a new id, and a new serial
pub new-id : (s : Rows) (counters : Counters) (id : ℕ) → is_new_id s counters id ≡ true → (s.next_id ≤ id) × (id < counters.next_id)
new-id s counters id new =
    let both = and_parts (nat_le s.next_id id) (nat_lt id counters.next_id) new in
    (leb-true s.next_id id both.0, ltb-true id counters.next_id both.1)

pub new-serial : (s : Rows) (counters : Counters) (serial : ℕ) → is_new_serial s counters serial ≡ true → (s.next_serial ≤ serial) × (serial < counters.next_serial)
new-serial s counters serial new =
    let both = and_parts (nat_le s.next_serial serial) (nat_lt serial counters.next_serial) new in
    (leb-true s.next_serial serial both.0, ltb-true serial counters.next_serial both.1)

module _ (s : Rows) (sound : IsSound s) where
  -- a serial from the next one on is above all
  pub sessions-below : (serial : ℕ) → s.next_serial ≤ serial → KeysBelow serial_of serial s.tokens.sessions
  sessions-below serial later =
      each-weaken (IsSessionOf s.next_id s.next_serial) (λ row. serial_of row < serial) s.tokens.sessions (λ row known. omega (arith, later, known.below)) sound.orderly.tokens.sessions

  pub tokens-below : (serial : ℕ) → s.next_serial ≤ serial → KeysBelow token_serial serial s.tokens.tokens
  tokens-below serial later =
      each-weaken (IsTokenOf s.next_id s.next_serial) (λ row. token_serial row < serial) s.tokens.tokens (λ row known. omega (arith, later, known.below)) sound.orderly.tokens.tokens

  -- an id from the next one on is unknown
  pub unknown-later : {R : Type 0} (key : R → ℕ) (rows : List R) → AreNumbered key s.next_id rows → (id : ℕ) → s.next_id ≤ id → knows key id rows ≡ false
  unknown-later key rows numbered id later =
      knows-below key id rows (KeysBelow-more key s.next_id id rows later (below-next key s.next_id rows numbered))

  pub no-access_id : (id : ℕ) → s.next_id ≤ id → is_access_id id s.access ≡ false
  no-access_id id later = unknown-from id s.access (record {
    principals = unknown-later principal_id s.access.principals sound.orderly.access.principals id later;
    principal_roles = unknown-later principal_role_id s.access.principal_roles sound.orderly.access.principal_roles id later;
    catalog_roles = unknown-later catalog_role_id s.access.catalog_roles sound.orderly.access.catalog_roles id later;
  })

-- the first of the changes that are left sets a counter
pub one-set : (s : Rows) (counters after : Counters) (changes left rest : List Change) (first : Change) → rows_after changes s ≡ rows_after left (counted s counters) → left ≡ first ∷ rest → ((t : Rows) → changed (counted t counters) first ≡ counted t after) → rows_after changes s ≡ rows_after rest (counted s after)
unfolding rows_after
one-set s counters after changes left rest first led is sets =
    led ∙ ap (λ some. rows_after some (counted s counters)) is ∙ ap (rows_after rest) (sets s)

-- nothing was found
pub none-told : {A : Type 0} (found : Option A) → is_none found ≡ true → found ≡ None
none-told None none = refl
none-told (Some one) none = absurd (true≢false (sym none))
