-- The principal that a caller asks for.
use Rattle.std.proofs.Common.{◌≡◌, ℕ, Bool, true, false, not, List, Option, None, Some, cond, is_some, option_map, refl, sym, ap, subst, ◌∙◌, true≢false}
use Rattle.pol_access.specs.Access.{principal_id}
use Rattle.pol_access.specs.declared.rows.PrincipalRow.{PrincipalRow}
use Rattle.pol_access.specs.Names.{principal_named}
use Rattle.pol_commands.specs.declared.command.Caller.{Caller}
use Rattle.pol_commands.specs.declared.command.Caller.TheVariants.{Nobody, Bearer, Setup}
use Rattle.pol_commands.specs.declared.command.Command.{Command}
use Rattle.pol_commands.specs.declared.reply.Refusal.{Refusal}
use Rattle.pol_commands.specs.declared.reply.Refusal.TheVariants.{Unauthenticated}
use Rattle.pol_state.specs.Rows.{Rows}
use Rattle.pol_state.specs.Sound.{IsGiven, IsSessionOf, IsSound}
use Rattle.pol_tables.specs.Table.{knows}
use Rattle.pol_tables.proofs.ListLemmas.{each-weaken}
use Rattle.pol_tables.proofs.TableLemmas.{some_is}
use Rattle.pol_tokens.specs.Tokens.{find_session, token_count}
use Rattle.pol_tokens.specs.declared.session.SessionRow.{SessionRow}
use Rattle.pol_rules.specs.Rules.{given, is_signed_in, kept_if, session_of, time_of, unauthenticated}
use Rattle.pol_rules.proofs.FoundLemmas.{found-holds}
use Rattle.pol_rules.proofs.RulesLemmas.{refused-not}
use Rattle.pol_token_rules.specs.Counts.{caller_holder, holder, too_many, too_many_tokens}

not-false : (b : Bool) → not b ≡ false → b ≡ true
not-false true is = refl
not-false false is = absurd (true≢false is)

-- what is kept was found
kept-found : {R : Type 0} (test : R → Bool) (found : Option R) (row : R) → kept_if test found ≡ Some row → found ≡ Some row
kept-found test None row kept = kept
kept-found test (Some one) row kept = by (test one) refl
  where
    by : (b : Bool) → test one ≡ b → Some one ≡ Some row
    by true here = sym (ap (λ b. cond b (Some one) None) here) ∙ kept
    by false other = let contrary : None ≡ Some row = sym (ap (λ b. cond b (Some one) None) other) ∙ kept in cc

module _ (s : Rows) (sound : IsSound s) where
  mapped-some : {A B : Type 0} (f : A → B) (found : Option A) → is_some found ≡ true → is_some (option_map f found) ≡ true
  mapped-some f None is = is
  mapped-some f (Some one) is = refl

  -- who may ask asks for one
  asks-by : (time : ℕ) (caller : Caller) → is_signed_in s time caller ≡ true → is_some (caller_holder s time caller) ≡ true
  asks-by time Nobody signed = absurd (true≢false (sym signed))
  asks-by time (Bearer text) signed = mapped-some (λ (row : SessionRow). row.principal) (session_of s time text) signed
  asks-by time Setup signed =
      ap (λ found. is_some (option_map (λ (row : PrincipalRow). row.id) found)) sound.orderly.access.root_chain.root_there

  pub asks-as : (command : Command) → unauthenticated s command ≡ None → is_some (holder s command) ≡ true
  unfolding holder unauthenticated
  asks-as command signed =
      asks-by (time_of s command) command.caller (not-false (is_signed_in s (time_of s command) command.caller) (refused-not (not (is_signed_in s (time_of s command) command.caller)) Unauthenticated signed))

  -- and it was given its id
  session-given : (time : ℕ) (text : List ℕ) (row : SessionRow) → session_of s time text ≡ Some row → IsGiven s.next_id row.principal
  unfolding session_of
  session-given time text row at =
      found-holds (λ (one : SessionRow). IsGiven s.next_id one.principal) _ s.tokens.sessions row
      (each-weaken (IsSessionOf s.next_id s.next_serial) (λ (one : SessionRow). IsGiven s.next_id one.principal) s.tokens.sessions (λ one known. known.principal) sound.orderly.tokens.sessions)
      (kept-found (λ (one : SessionRow). knows principal_id one.principal s.access.principals) (find_session text time s.tokens) row at)

  of-session : (time : ℕ) (text : List ℕ) (principal : ℕ) (found : Option SessionRow) → session_of s time text ≡ found → option_map (λ (row : SessionRow). row.principal) found ≡ Some principal → IsGiven s.next_id principal
  of-session time text principal None at is = let contrary : None ≡ Some principal = is in cc
  of-session time text principal (Some row) at is =
      subst (IsGiven s.next_id) (some_is row.principal principal is) (session-given time text row at)

  given-by : (time : ℕ) (caller : Caller) (principal : ℕ) → caller_holder s time caller ≡ Some principal → IsGiven s.next_id principal
  given-by time Nobody principal is = let contrary : None ≡ Some principal = is in cc
  given-by time (Bearer text) principal is = of-session time text principal (session_of s time text) refl is
  given-by time Setup principal is =
      let chain = sound.orderly.access.root_chain in
      let root : Some chain.root.id ≡ Some principal = sym (ap (option_map (λ (row : PrincipalRow). row.id)) chain.root_there) ∙ is in
      subst (IsGiven s.next_id) (some_is chain.root.id principal root) (found-holds (λ row. IsGiven s.next_id (principal_id row)) _ s.access.principals chain.root sound.orderly.access.principals.given chain.root_there)

  pub holder-given : (command : Command) (principal : ℕ) → holder s command ≡ Some principal → IsGiven s.next_id principal
  unfolding holder
  holder-given command principal is = given-by (time_of s command) command.caller principal is

-- the rule on the caller's storage tokens, where there are so many
pub tokens-rule : (s : Rows) (command : Command) (principal live : ℕ) (rule : Option Refusal) → holder s command ≡ Some principal → live ≡ token_count principal (time_of s command) s.tokens → too_many live ≡ rule → too_many_tokens s command ≡ rule
unfolding too_many_tokens
tokens-rule s command principal live rule held is told =
    ap (λ found. given found (λ one. too_many (token_count one (time_of s command) s.tokens))) held ∙ ap too_many (sym is) ∙ told
