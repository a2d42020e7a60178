-- The rules on sessions and storage tokens are fair.
use Rattle.std.proofs.Common.{◌≡◌, ℕ, Bool, false, true, List, Option, None, Some, is_none, option_map, refl, sym, ap, arith}
use Rattle.pol_access.specs.Access.{principal_id}
use Rattle.pol_access.specs.declared.privilege.Privilege.{Privilege}
use Rattle.pol_access.specs.declared.securable.Securable.{Securable}
use Rattle.pol_commands.specs.Reply.{is_full}
use Rattle.pol_commands.specs.declared.command.Caller.{Caller}
use Rattle.pol_commands.specs.declared.command.Caller.TheVariants.{Nobody, Bearer, Setup}
use Rattle.pol_commands.specs.declared.command.Command.{Command}
use Rattle.pol_commands.specs.declared.reply.Refusal.{Refusal}
use Rattle.pol_commands.specs.declared.reply.Refusal.TheVariants.{TokenUnknown, TooManyTokens}
use Rattle.pol_names.specs.declared.identifier.Identifier.{Identifier}
use Rattle.pol_state.specs.Bounds.{refuse_if}
use Rattle.pol_state.specs.Rows.{Rows}
use Rattle.pol_state.specs.Sound.{IsSound}
use Rattle.pol_tables.specs.Table.{knows}
use Rattle.pol_tokens.specs.Issued.{not_allowed}
use Rattle.pol_tokens.specs.declared.token.Act.{Act}
use Rattle.pol_tokens.specs.declared.token.TokenRefused.{TokenRefused}
use Rattle.pol_tokens.specs.declared.token.TokenRefused.TheVariants as refused
use Rattle.pol_tokens.specs.declared.token.TokenRow.{TokenRow}
use Rattle.pol_rules.specs.Live.{live_part}
use Rattle.pol_rules.specs.Rules.{given, kept_if, time_of}
use Rattle.pol_rules.proofs.FairLemmas.{caller-may, fair-caller, fair-given, fair-inside, fair-mapped, fair-need, fair-no_catalogue, fair-no_namespace, fair-no_table, fair-same, ◌⊳◌, AreFair, IsFair}
use Rattle.pol_rules.proofs.LiveLemmas.{session-live}
use Rattle.pol_rules.proofs.RulesLemmas.{refuse_if-other}
use Rattle.pol_token_rules.specs.Access.{is_current, token_borne, token_of, token_of_text, token_unknown, told_as, unopened}
use Rattle.pol_token_rules.specs.Counts.{caller_holder, holder, too_many, too_many_sessions, too_many_tokens}
use Rattle.pol_token_rules.specs.DataNeeds.{at_table_data, may_write, on_namespace_data}
use Rattle.pol_token_rules.proofs.LiveTokenLemmas.{session_count-live, token-live, token_count-live}

told-other : (why : TokenRefused) → is_full (told_as why) ≡ false
told-other refused.NotCovered = refl
told-other refused.NotWritable = refl

module _ (s : Rows) (command : Command) where
  -- the storage token of a caller is the same one
  borne-alike : (caller : Caller) → token_of s (time_of s command) caller ≡ token_of (live_part s) (time_of s command) caller
  unfolding token_of_text
  borne-alike Nobody = refl
  borne-alike (Bearer text) = ap (kept_if (is_current s)) (sym (token-live s (time_of s command) (omega arith) text))
  borne-alike Setup = refl

  pub borne-live : token_borne s command ≡ token_borne (live_part s) command
  borne-live = borne-alike command.caller

module _ {s : Rows} (command : Command) where
  -- a principal that is there has no more and no fewer sessions
  pub fair-too_many_sessions : (principal : ℕ) → knows principal_id principal s.access.principals ≡ true → IsFair s (too_many_sessions s command principal) (too_many_sessions (live_part s) command principal)
  unfolding too_many_sessions
  fair-too_many_sessions principal known = record {
    other = refuse_if-other _ (TooManyTokens _) refl;
    alike = λ sound. ap too_many (sym (session_count-live s (time_of s command) (omega arith) principal known));
  }

  -- a caller's principal is the same one
  holder-alike : IsSound s → (caller : Caller) → caller_holder s (time_of s command) caller ≡ caller_holder (live_part s) (time_of s command) caller
  holder-alike sound Nobody = refl
  holder-alike sound (Bearer text) =
      ap (option_map (λ row. row.principal)) (sym (session-live s sound (time_of s command) text (omega arith)))
  holder-alike sound Setup = refl

  pub holder-live : IsSound s → holder s command ≡ holder (live_part s) command
  unfolding holder
  holder-live sound = holder-alike sound command.caller

  pub fair-too_many_tokens : IsFair s (too_many_tokens s command) (too_many_tokens (live_part s) command)
  unfolding too_many_tokens
  fair-too_many_tokens = record {
    other = (fair-given {s = s} (holder s command) (λ principal. fair-same (refuse_if-other _ (TooManyTokens _) refl))).other;
    alike = λ sound i. given (holder-live sound i) (λ principal. too_many (sym (token_count-live s (time_of s command) (omega arith) principal) i));
  }

  pub fair-token_unknown : IsFair s (token_unknown s command) (token_unknown (live_part s) command)
  unfolding token_unknown
  fair-token_unknown = record {
    other = refuse_if-other _ TokenUnknown refl;
    alike = λ sound. ap (λ found. refuse_if (is_none found) TokenUnknown) (borne-live s command);
  }

  fair-unopened : (token : TokenRow) (path : List (List ℕ)) (act : Act) → IsFair s (unopened token path act) (unopened token path act)
  unfolding unopened
  fair-unopened token path act = fair-mapped (not_allowed token path act) told_as told-other

  pub fair-opened : (path : List (List ℕ)) (act : Act) → IsFair s (given (token_borne s command) (λ (token : TokenRow). unopened token path act)) (given (token_borne (live_part s) command) (λ (token : TokenRow). unopened token path act))
  fair-opened path act = record {
    other = (fair-given {s = s} (token_borne s command) (λ token. fair-unopened token path act)).other;
    alike = λ sound. ap (λ found. given found (λ (token : TokenRow). unopened token path act)) (borne-live s command);
  }

  -- what the caller may write
  pub may_write-live : IsSound s → (on : Securable) → may_write s command on ≡ may_write (live_part s) command on
  may_write-live sound on = caller-may command sound command.caller _

  -- the rules that actions which hand out storage tokens begin with
  module _ {rules lives : List (Option Refusal)} where
    pub fair-on_namespace_data : (privilege : Privilege) (name : List ℕ) (levels : List (List ℕ)) → AreFair s rules lives → AreFair s (on_namespace_data s command privilege name levels rules) (on_namespace_data (live_part s) command privilege name levels lives)
    fair-on_namespace_data privilege name levels fair =
        fair-caller command ⊳ fair-no_catalogue name ⊳ fair-inside name (λ catalog. fair-need command _) ⊳ fair-inside name (λ catalog. fair-no_namespace catalog.id levels) ⊳ fair

    pub fair-at_table_data : (privilege : Privilege) (name : List ℕ) (identifier : Identifier) → AreFair s rules lives → AreFair s (at_table_data s command privilege name identifier rules) (at_table_data (live_part s) command privilege name identifier lives)
    fair-at_table_data privilege name identifier fair =
        fair-caller command ⊳ fair-no_catalogue name ⊳ fair-inside name (λ catalog. fair-need command _) ⊳ fair-inside name (λ catalog. fair-no_namespace catalog.id identifier.namespace) ⊳ fair-inside name (fair-no_table identifier) ⊳ fair
