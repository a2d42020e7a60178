-- Opening a session.
use Rattle.std.specs.Prelude.{ℕ, ◌+◌, ◌||◌, List, [], ◌∷◌, ◌++◌, Option, Some, None, if◌then◌else◌, length, ◌==◌}
use Rattle.std.specs.List.{list_any, filter_map}
use Rattle.std.specs.Str.{bytes_eq}
use Rattle.pol_access.specs.declared.rows.PrincipalRow.{PrincipalRow}
use Rattle.pol_names.specs.declared.scope.Scope.{Scope}
use Rattle.pol_names.specs.declared.scope.Scope.TheVariants as scope
use Rattle.pol_tokens.specs.declared.session.SessionRow.{SessionRow}
use Rattle.pol_state.specs.Rows.{Rows}
use Rattle.pol_rules.specs.Acting.{Acting}
use Rattle.pol_token_rules.specs.Counts.{too_many_sessions}
use Rattle.pol_rules.specs.Rules.{client_of, invalid_client, invalid_scope, given, held_role, all_roles, time_of}
use Rattle.pol_commands.specs.declared.command.Command.{Command}
use Rattle.pol_commands.specs.declared.reply.Answer.TheVariants.{SessionOpened}

-- the scope that these words make: all roles where there are none or one of them says so, else the roles that they
-- name, in their order
unfoldable pub scope_of : Rows → ℕ → List (List ℕ) → Scope
scope_of s principal scopes =
    if length scopes == 0 || list_any (λ scope. bytes_eq scope all_roles) scopes then scope.All
    else scope.Roles (filter_map (held_role s.access principal) scopes)

-- the session that a command opens for a principal, which lasts an hour
unfoldable pub opened : Rows → Command → List (List ℕ) → PrincipalRow → SessionRow
opened s command scopes principal = record {
  serial = s.next_serial;
  word_a = command.words.a;
  word_b = command.words.b;
  principal = principal.id;
  scope = scope_of s principal.id scopes;
  expires = time_of s command + 3600000;
}

-- the rows with one more session
abbrev pub with_session : Rows → SessionRow → Rows
with_session s row =
    record s { tokens = record s.tokens { sessions = s.tokens.sessions ++ row ∷ [] }; next_serial = s.next_serial + 1 }

-- the rows once a session is opened for the principal that was found
abbrev pub session_opened : Rows → Command → List (List ℕ) → Option PrincipalRow → Rows
session_opened s command scopes None = s
session_opened s command scopes (Some principal) = with_session s (opened s command scopes principal)

-- opening a session for the client of this id and secret, with these scopes
abbrev pub open_session : Rows → Command → List ℕ → List ℕ → List (List ℕ) → Acting
open_session s command client_id secret scopes =
    let client = client_of s client_id secret in
    record {
      rules = invalid_client s client_id secret ∷ given client (λ principal. invalid_scope s principal.id scopes) ∷ given client (λ (principal : PrincipalRow). too_many_sessions s command principal.id) ∷ [];
      after = session_opened s command scopes client;
      answer = Some (SessionOpened s.next_serial command.words.a command.words.b);
    }
