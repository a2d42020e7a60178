-- The live part of a state has the storage tokens, and the numbers of sessions and tokens, that count from its time on.
use Rattle.std.proofs.Common.{◌≡◌, ℕ, ◌≤◌, Bool, true, false, List, [], ◌∷◌, filter, length, nat_eq, nat_lt, refl, sym, ap, ◌∙◌, true≢false}
use Rattle.std.specs.List.{count_by, find, AllByRecursion}
use Rattle.std.proofs.lemmas.Bool.{and_parts, eqb-true}
use Rattle.std.proofs.lemmas.List.Sums.{length-filter}
use Rattle.pol_access.specs.Access.{principal_id}
use Rattle.pol_state.specs.Rows.{Rows}
use Rattle.pol_tables.specs.Table.{knows}
use Rattle.pol_tables.proofs.ListLemmas.{each-all}
use Rattle.pol_tokens.specs.Chains.{is_held}
use Rattle.pol_tokens.specs.HeldTable.{is_sought}
use Rattle.pol_tokens.specs.Tokens.{find_token, session_count, session_expiry, session_holder, token_a, token_b, token_count, token_expiry, token_has_text, token_holder, token_serial}
use Rattle.pol_rules.specs.Live.{is_live, is_unexpired, live_part}
use Rattle.pol_rules.proofs.LiveLemmas.{filter-weaker, live-before, unexpired-before}

-- where each item of a list that passes a test stays
module _ {X : Type 0} (test stay : X → Bool) where
  pub count-staying : (xs : List X) → AllByRecursion (λ x. test x ≡ true → stay x ≡ true) xs → count_by test (filter stay xs) ≡ count_by test xs
  count-staying xs stays = sym (length-filter test (filter stay xs)) ∙ ap length (filter-weaker test stay xs stays) ∙ length-filter test xs

  pub find-staying : (xs : List X) → AllByRecursion (λ x. test x ≡ true → stay x ≡ true) xs → find test (filter stay xs) ≡ find test xs
  find-staying [] stays = refl
  find-staying (x ∷ xs) stays = by (stay x) (test x) refl refl (find-staying xs stays.1)
    where
      by : (s t : Bool) → stay x ≡ s → test x ≡ t → find test (filter stay xs) ≡ find test xs → find test (filter stay (x ∷ xs)) ≡ find test (x ∷ xs)
      by true true is passes rest = rw (is, passes) refl
      by true false is fails rest = rw (is, fails) rest
      by false true is passes rest = absurd (true≢false (sym (stays.0 passes) ∙ is))
      by false false is fails rest = rw (is, fails) rest

module _ (s : Rows) (time : ℕ) (later : s.time ≤ time) where
  pub token-live : (text : List ℕ) → find_token text time (live_part s).tokens ≡ find_token text time s.tokens
  token-live text =
      find-staying (is_sought token_serial token_a token_b token_expiry text time) (is_unexpired s) s.tokens.tokens (each-all (λ row. is_sought token_serial token_a token_b token_expiry text time row ≡ true → is_unexpired s row ≡ true) s.tokens.tokens (λ row sought. unexpired-before s time row later (and_parts (token_has_text text row) (nat_lt time row.expires) sought).1))

  pub token_count-live : (principal : ℕ) → token_count principal time (live_part s).tokens ≡ token_count principal time s.tokens
  token_count-live principal =
      count-staying (is_held token_holder token_expiry principal time) (is_unexpired s) s.tokens.tokens (each-all (λ row. is_held token_holder token_expiry principal time row ≡ true → is_unexpired s row ≡ true) s.tokens.tokens (λ row held. unexpired-before s time row later (and_parts (nat_eq principal row.principal) (nat_lt time row.expires) held).1))

  -- the sessions of a principal that is there
  pub session_count-live : (principal : ℕ) → knows principal_id principal s.access.principals ≡ true → session_count principal time (live_part s).tokens ≡ session_count principal time s.tokens
  session_count-live principal known =
      count-staying (is_held session_holder session_expiry principal time) (is_live s) s.tokens.sessions (each-all (λ row. is_held session_holder session_expiry principal time row ≡ true → is_live s row ≡ true) s.tokens.sessions (λ row held.
      let parts = and_parts (nat_eq principal row.principal) (nat_lt time row.expires) held in
      live-before s time row later parts.1 (ap (λ id. knows principal_id id s.access.principals) (sym (eqb-true principal row.principal parts.0)) ∙ known)))
