-- Opening a session: what refuses it, what it changes, and where the changes lead.
use Rattle.std.proofs.Common.{◌≡◌, ℕ, ◌+◌, List, [], ◌∷◌, Option, None, Some, refl, sym, ap, subst, ◌∙◌}
use Rattle.pol_access.specs.declared.rows.PrincipalRow.{PrincipalRow}
use Rattle.pol_tables.specs.Rising.{KeysBelow}
use Rattle.pol_tables.proofs.RisingLemmas.{knows-below}
use Rattle.pol_content.specs.declared.change.Change.TheVariants.{Time, NextSerial, PutSession}
use Rattle.pol_tokens.specs.Tokens.{serial_of}
use Rattle.pol_tokens.proofs.HeldLemmas.{once-new}
use Rattle.pol_token_rules.specs.Counts.{too_many_sessions}
use Rattle.pol_names.specs.declared.scope.Scope.{Scope}
use Rattle.pol_commands.specs.declared.command.Command.{Command}
use Rattle.pol_commands.specs.declared.reply.Refusal.{Refusal}
use Rattle.pol_state.specs.Changes.{changes_between}
use Rattle.pol_state.specs.Rows.{Rows}
use Rattle.pol_state.specs.Sound.{IsSound}
use Rattle.pol_state.proofs.ChangesLemmas.{serials-below}
use Rattle.pol_rules.specs.Acting.{stamped}
use Rattle.pol_state.specs.Bounds.{first_refusal}
use Rattle.pol_rules.specs.Rules.{client_of, given, invalid_client, invalid_scope, time_of}
use Rattle.pol_rules.proofs.LeadsLemmas.{leads-by, Leads}
use Rattle.pol_state.proofs.BoundsLemmas.{refusal-past}
use Rattle.pol_content_actions.specs.Sessions.{open_session, opened, scope_of, session_opened, with_session}
use Rattle.pol_content_actions.proofs.ChangesLemmas.{changes-opened}

module _ (s : Rows) (command : Command) (scopes : List (List ℕ)) where
  opened-serial : (principal : PrincipalRow) → (opened s command scopes principal).serial ≡ s.next_serial
  unfolding opened
  opened-serial principal = refl

  -- the row that the code makes
  pub opened-is : (principal : PrincipalRow) (serial : ℕ) (scope : Scope) (time : ℕ) → serial ≡ s.next_serial → scope ≡ scope_of s principal.id scopes → time ≡ time_of s command
      → record { serial = serial; word_a = command.words.a; word_b = command.words.b; principal = principal.id; scope = scope; expires = time + 3600000 } ≡ opened s command scopes principal
  unfolding opened
  opened-is principal serial scope time serial_is scope_is time_is =
      λ i. record { serial = serial_is i; word_a = command.words.a; word_b = command.words.b; principal = principal.id; scope = scope_is i; expires = time_is i + 3600000 }

  -- the changes that the code makes
  pub changes-made : (principal : PrincipalRow) (serial : ℕ) (scope : Scope) (time : ℕ) → serial ≡ s.next_serial → scope ≡ scope_of s principal.id scopes → time ≡ time_of s command
      → Time time ∷ NextSerial (serial + 1) ∷ PutSession (record { serial = serial; word_a = command.words.a; word_b = command.words.b; principal = principal.id; scope = scope; expires = time + 3600000 }) ∷ [] ≡ Time (time_of s command) ∷ NextSerial (s.next_serial + 1) ∷ PutSession (opened s command scopes principal) ∷ []
  changes-made principal serial scope time serial_is scope_is time_is =
      λ i. Time (time_is i) ∷ NextSerial (serial_is i + 1) ∷ PutSession (opened-is principal serial scope time serial_is scope_is time_is i) ∷ []

  pub opened-below : (principal : PrincipalRow) → IsSound s → KeysBelow serial_of (opened s command scopes principal).serial s.tokens.sessions
  opened-below principal sound =
      subst (λ serial. KeysBelow serial_of serial s.tokens.sessions) (sym (opened-serial principal)) (serials-below s sound)

  -- the changes of a session that is opened
  pub changes-session : (principal : PrincipalRow) → IsSound s
      → changes_between s (stamped s command (with_session s (opened s command scopes principal))) ≡ Time (time_of s command) ∷ NextSerial (s.next_serial + 1) ∷ PutSession (opened s command scopes principal) ∷ []
  changes-session principal sound =
      changes-opened s (opened s command scopes principal) (opened-below principal sound) (time_of s command) (s.charged + command.charge)

  -- the changes lead to the rows with the command's time and charge
  pub leads-opened : (principal : PrincipalRow) → IsSound s → Leads s command (with_session s (opened s command scopes principal))
  leads-opened principal sound =
      let row = opened s command scopes principal in
      leads-by s command (with_session s row) _ (changes-session principal sound) (λ i. record (with_session s row) { tokens = record s.tokens { sessions = once-new serial_of row s.tokens.sessions (knows-below serial_of row.serial s.tokens.sessions (opened-below principal sound)) i }; time = time_of s command })

  module _ (client_id secret : List ℕ) where
    abbrev rules : List (Option Refusal)
    rules = (open_session s command client_id secret scopes).rules

    module _ (principal : PrincipalRow) (known : invalid_client s client_id secret ≡ None) (found : client_of s client_id secret ≡ Some principal) where
      scope_rule : (rule : Option Refusal) → invalid_scope s principal.id scopes ≡ rule → given (client_of s client_id secret) (λ principal. invalid_scope s principal.id scopes) ≡ rule
      scope_rule rule is = ap (λ client. given client (λ principal. invalid_scope s principal.id scopes)) found ∙ is

      count_rule : (rule : Option Refusal) → too_many_sessions s command principal.id ≡ rule → given (client_of s client_id secret) (λ (one : PrincipalRow). too_many_sessions s command one.id) ≡ rule
      count_rule rule is = ap (λ client. given client (λ (one : PrincipalRow). too_many_sessions s command one.id)) found ∙ is

      pub none-refused : invalid_scope s principal.id scopes ≡ None → too_many_sessions s command principal.id ≡ None → first_refusal rules ≡ None
      none-refused passes few =
          refusal-past _ _ _ known (refusal-past _ _ None (scope_rule None passes) (refusal-past _ [] None (count_rule None few) refl))

      -- the changes of the action
      pub changes-acting : IsSound s → changes_between s (stamped s command (open_session s command client_id secret scopes).after) ≡ Time (time_of s command) ∷ NextSerial (s.next_serial + 1) ∷ PutSession (opened s command scopes principal) ∷ []
      changes-acting sound =
          ap (λ client. changes_between s (stamped s command (session_opened s command scopes client))) found ∙ changes-session principal sound
