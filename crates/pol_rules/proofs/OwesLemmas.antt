-- What each action owes: its changes lead to its rows after, which are orderly, and the live part does the same.
use Rattle.std.proofs.Common.{◌≡◌, true, ◌++◌, ◌∙◌, List, filter, Option, None, Some, nat_lt, refl, sym, subst, arith}
use Rattle.std.specs.List.{AllByRecursion}
use Rattle.std.proofs.lemmas.Bool.{and_parts}
use Rattle.pol_access.specs.Access.{principal_id}
use Rattle.pol_tables.specs.Table.{knows}
use Rattle.pol_tables.proofs.ListLemmas.{each-all, each-weaken}
use Rattle.pol_tokens.specs.Tokens.{TokenRows}
use Rattle.pol_tokens.specs.declared.session.SessionRow.{SessionRow}
use Rattle.pol_tokens.specs.declared.token.TokenRow.{TokenRow}
use Rattle.pol_commands.specs.declared.command.Command.{Command}
use Rattle.pol_commands.specs.declared.reply.Answer.{Answer}
use Rattle.pol_commands.specs.declared.reply.Refusal.{Refusal}
use Rattle.pol_state.specs.Changes.{changes_between, headed, id_change, in_turn, row_changes, serial_change}
use Rattle.pol_state.specs.Rows.{Rows}
use Rattle.pol_state.specs.Sound.{IsOrderly, IsSound}
use Rattle.pol_state.proofs.ChangesLemmas.{sessions-kept, tokens-kept}
use Rattle.pol_rules.specs.Acting.{done, reading, stamped, Acting}
use Rattle.pol_rules.specs.Live.{is_live, is_unexpired, live_part, live_tokens, Agree}
use Rattle.pol_state.specs.Bounds.{over_limit, EachPasses}
use Rattle.pol_rules.specs.Rules.{time_of}
use Rattle.pol_rules.proofs.FairLemmas.{AreFair}
use Rattle.pol_rules.proofs.LeadsLemmas.{leads-same, Leads}
use Rattle.pol_rules.proofs.LiveLemmas.{filter-weaker, live-before, unexpired-before}
use Rattle.pol_rules.proofs.SoundLemmas.{stamped-orderly, IsWithin}

-- rows with these tokens
abbrev pub with_tokens : TokenRows → Rows → Rows
with_tokens tokens s = record s { tokens = tokens }

-- rows after a command in the state, and in its live part: they come by the same changes, and agree
pub record DoSame (s after live : Rows) : Type 0 where
  pub changes : changes_between s after ≡ changes_between (live_part s) live
  pub agree : Agree after live

-- each session's principal that is there in the rows is there in the state
abbrev pub NoneReturns : Rows → Rows → Type 0
NoneReturns s after =
    AllByRecursion (λ row. knows principal_id row.principal after.access.principals ≡ true → knows principal_id row.principal s.access.principals ≡ true) s.tokens.sessions

module _ (s : Rows) (command : Command) where
  -- what is owed of the rows after an action: its changes lead to them, in the live part it leaves the same, and there
  -- bounds are judged alike
  pub record OwesRows (after live : Rows) : Type 0 where
    pub leads : IsSound s → Leads s command after
    pub same : IsSound s → DoSame s (stamped s command after) (stamped (live_part s) command live)
    pub bounds : IsSound s → over_limit after ≡ over_limit live

  -- what is owed of an action: besides, it keeps a sound state orderly where its rules pass, none of them tells that the
  -- run is full, and in the live part they are judged alike and the answer is the same
  pub record Owes (action live : Acting) : Type 0 where
    pub rows : OwesRows action.after live.after
    pub orderly : IsSound s → IsWithin s command → EachPasses action.rules → IsOrderly (stamped s command action.after)
    pub fair : AreFair s action.rules live.rules
    pub answer : IsSound s → action.answer ≡ live.answer

  -- rows that leave the principals alone bring none back
  pub none-returns : NoneReturns s s
  none-returns =
      each-all (λ row. knows principal_id row.principal s.access.principals ≡ true → knows principal_id row.principal s.access.principals ≡ true) s.tokens.sessions (λ row there. there)

  -- the sessions that are live after an action were live before
  pub live-after : (after : Rows) → NoneReturns s after → filter (is_live (stamped s command after)) s.tokens.sessions ≡ filter (is_live (stamped s command after)) (filter (is_live s) s.tokens.sessions)
  live-after after none =
      sym (filter-weaker (is_live (stamped s command after)) (is_live s) s.tokens.sessions (each-weaken _ _ s.tokens.sessions before none))
    where
      before : (row : SessionRow) → (knows principal_id row.principal after.access.principals ≡ true → knows principal_id row.principal s.access.principals ≡ true) → is_live (stamped s command after) row ≡ true → is_live s row ≡ true
      before row there is =
          let parts = and_parts (nat_lt (time_of s command) row.expires) (knows principal_id row.principal after.access.principals) is in
          live-before s (time_of s command) row (omega arith) parts.0 (there parts.1)

  -- and so were the storage tokens
  pub tokens-after : (after : Rows) → filter (is_unexpired (stamped s command after)) s.tokens.tokens ≡ filter (is_unexpired (stamped s command after)) (filter (is_unexpired s) s.tokens.tokens)
  tokens-after after =
      sym (filter-weaker (is_unexpired (stamped s command after)) (is_unexpired s) s.tokens.tokens (each-all (λ row. is_unexpired (stamped s command after) row ≡ true → is_unexpired s row ≡ true) s.tokens.tokens before))
    where
      before : (row : TokenRow) → is_unexpired (stamped s command after) row ≡ true → is_unexpired s row ≡ true
      before row is = unexpired-before s (time_of s command) row (omega arith) is

  -- rows that leave the sessions and the storage tokens alone, and bring no session's principal back
  same-by : (after : Rows) → NoneReturns s after → DoSame s (stamped s command (with_tokens s.tokens after)) (stamped (live_part s) command (with_tokens (live_tokens s) after))
  unfolding changes_between
  same-by after none = record {
    changes = λ i. headed (time_of s command) (id_change s after ++ serial_change s after) (in_turn (record (row_changes s after) { sessions = (sessions-kept s ∙ sym (sessions-kept (live_part s))) i; tokens = (tokens-kept s ∙ sym (tokens-kept (live_part s))) i }));
    agree = λ i. with_tokens (record { sessions = live-after after none i; tokens = tokens-after after i }) (stamped s command after);
  }

  bounds-by : (after : Rows) → over_limit (with_tokens s.tokens after) ≡ over_limit (with_tokens (live_tokens s) after)
  unfolding over_limit
  bounds-by after = refl

  pub owes-returning : (after : Rows) → (IsSound s → NoneReturns s after) → (IsSound s → Leads s command (with_tokens s.tokens after)) → OwesRows (with_tokens s.tokens after) (with_tokens (live_tokens s) after)
  owes-returning after none leads = record {
    leads = leads;
    same = λ sound. same-by after (none sound);
    bounds = λ sound. bounds-by after;
  }

  -- rows that leave the sessions, the storage tokens and the principals alone
  pub owes-apart : (after : Rows) → after.access.principals ≡ s.access.principals → (IsSound s → Leads s command (with_tokens s.tokens after)) → OwesRows (with_tokens s.tokens after) (with_tokens (live_tokens s) after)
  owes-apart after apart leads =
      owes-returning after (λ sound. subst (λ principals. NoneReturns s (record s { access = record s.access { principals = principals } })) (sym apart) none-returns) leads

  -- rows that stay as they are
  pub owes-same : OwesRows s (live_part s)
  owes-same = owes-returning s (λ sound. none-returns) (λ sound. leads-same s command)

  -- an action on what it found
  pub owes-done : {A : Type 0} (found : Option A) (after live : A → Rows) → ((one : A) → found ≡ Some one → OwesRows (after one) (live one)) → OwesRows (done s found after) (done (live_part s) found live)
  owes-done None after live rows = owes-same
  owes-done (Some one) after live rows = rows one refl

  -- an action that changes nothing
  pub owes-reading : {rules live : List (Option Refusal)} {answer : Option Answer} → AreFair s rules live → Owes (reading s rules answer) (reading (live_part s) live answer)
  owes-reading fair = record {
    rows = owes-same;
    orderly = λ sound within passes. stamped-orderly s command sound.orderly within;
    fair = fair;
    answer = λ sound. refl;
  }
