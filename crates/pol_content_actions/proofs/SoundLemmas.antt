-- The state after a session is opened is orderly.
use Rattle.std.proofs.Common.{◌≡◌, ℕ, ◌+◌, ◌≤◌, Bool, true, false, cond, List, [], ◌∷◌, ◌++◌, Option, None, Some, nat_eq, refl, sym, ap, subst, ◌∙◌, arith, length, ◌==◌, ◌||◌}
use Rattle.std.specs.List.{cons_option, find, filter_map, list_any, AllByRecursion}
use Rattle.std.specs.Str.{bytes_eq}
use Rattle.std.specs.Option.{option_map}
use Rattle.std.proofs.lemmas.Bool.{ne_eqb, or_parts}
use Rattle.pol_access.specs.Access.{principal_id, principal_role_id, is_member}
use Rattle.pol_access.specs.contracts.rows.PrincipalRow as principals
use Rattle.pol_access.specs.declared.rows.PrincipalRow.{PrincipalRow}
use Rattle.pol_access.specs.declared.rows.PrincipalRoleRow.{PrincipalRoleRow}
use Rattle.pol_tables.specs.Rising.{KeysBelow}
use Rattle.pol_tables.specs.Table.{knows}
use Rattle.std.proofs.lemmas.List.{append-nil}
use Rattle.pol_tables.proofs.ChangesLemmas.{each_known}
use Rattle.pol_tables.proofs.ListLemmas.{each-join, each-push, each-weaken}
use Rattle.pol_tables.proofs.RisingLemmas.{KeysRise-push}
use Rattle.pol_tables.proofs.TableLemmas.{some_is}
use Rattle.pol_tokens.specs.Tokens.{serial_of}
use Rattle.pol_tokens.specs.declared.session.SessionRow.{SessionRow}
use Rattle.pol_names.specs.declared.scope.Scope.TheVariants as scope
use Rattle.pol_commands.specs.declared.command.Command.{Command}
use Rattle.pol_state.specs.Rows.{Rows}
use Rattle.pol_state.specs.Sound.{IsGiven, IsOrderly, IsSessionOf, IsSound, IsTokenOf, NamesGiven}
use Rattle.pol_state.proofs.ChangesLemmas.{serials-below}
use Rattle.pol_rules.specs.Acting.{stamped}
use Rattle.pol_rules.specs.Rules.{all_roles, client_of, held_role, kept_if, role_of_scope, role_scope}
use Rattle.pol_rules.proofs.FoundLemmas.{found-holds}
use Rattle.pol_rules.proofs.SoundLemmas.{IsWithin}
use Rattle.pol_content_actions.specs.Sessions.{scope_of, with_session}

-- what is kept was found
pub kept-found : {R : Type 0} (test : R → Bool) (found : Option R) (row : R) → kept_if test found ≡ Some row → found ≡ Some row
kept-found test None row kept = kept
kept-found test (Some one) row kept = by (test one) refl
  where
    by : (b : Bool) → test one ≡ b → Some one ≡ Some row
    by true here = sym (ap (λ b. cond b (Some one) None) here) ∙ kept
    by false other = let contrary : None ≡ Some row = sym (ap (λ b. cond b (Some one) None) other) ∙ kept in cc

-- what holds of everything that a function gives holds of each item that it gives of a list
pub each-given : {X Y : Type 0} (P : Y → Type 0) (give : X → Option Y) → ((x : X) (y : Y) → give x ≡ Some y → P y) → (xs : List X) → AllByRecursion P (filter_map give xs)
each-given P give so [] = tt
each-given {Y = Y} P give so (x ∷ xs) = by (give x) (so x) (each-given P give so xs)
  where
    by : (first : Option Y) → ((y : Y) → first ≡ Some y → P y) → AllByRecursion P (filter_map give xs) → AllByRecursion P (cons_option first (filter_map give xs))
    by None holds rest = rest
    by (Some y) holds rest = (holds y refl, rest)

-- the principal that was found was given its id
pub client-given : (s : Rows) (client_id secret : List ℕ) (principal : PrincipalRow) → IsSound s → client_of s client_id secret ≡ Some principal → IsGiven s.next_id principal.id
unfolding client_of
client-given s client_id secret principal sound found =
    found-holds (λ row. IsGiven s.next_id (principal_id row)) _ s.access.principals principal sound.orderly.access.principals.given (kept-found _ _ principal found)

-- and is known by it
pub client-known : (s : Rows) (client_id secret : List ℕ) (principal : PrincipalRow) → client_of s client_id secret ≡ Some principal → knows principal_id principal.id s.access.principals ≡ true
unfolding client_of
client-known s client_id secret principal found =
    found-holds (λ row. knows principal_id (principal_id row) s.access.principals ≡ true) _ s.access.principals principal
    (subst (λ all. AllByRecursion (λ row. knows principal_id (principal_id row) all ≡ true) s.access.principals) (append-nil s.access.principals) (each_known principals.the_row.coded principal_id s.access.principals []))
    (kept-found _ _ principal found)

-- each role that a scope names was given its id
held-given : (s : Rows) (principal : ℕ) → IsSound s → (scope : List ℕ) (role : ℕ) → held_role s.access principal scope ≡ Some role → IsGiven s.next_id role
unfolding held_role role_of_scope
held-given s principal sound scope role held = by _ refl held
  where
    by : (kept : Option PrincipalRoleRow) → kept_if (λ row. is_member principal row.id s.access) (find (λ row. bytes_eq scope (role_scope row.name)) s.access.principal_roles) ≡ kept → option_map (λ row. row.id) kept ≡ Some role → IsGiven s.next_id role
    by None is mapped = let contrary : None ≡ Some role = mapped in cc
    by (Some row) is mapped =
        subst (IsGiven s.next_id) (some_is row.id role mapped) (found-holds (λ row. IsGiven s.next_id (principal_role_id row)) _ s.access.principal_roles row sound.orderly.access.principal_roles.given (kept-found _ _ row is))

pub scope-given : (s : Rows) (principal : ℕ) (scopes : List (List ℕ)) → IsSound s → NamesGiven s.next_id (scope_of s principal scopes)
unfolding scope_of
scope-given s principal scopes sound = by (length scopes == 0 || list_any (λ scope. bytes_eq scope all_roles) scopes)
  where
    by : (b : Bool) → NamesGiven s.next_id (cond b scope.All (scope.Roles (filter_map (held_role s.access principal) scopes)))
    by true = tt
    by false = each-given (IsGiven s.next_id) (held_role s.access principal) (held-given s principal sound) scopes

-- a session below the next serial is below any later one
later_serial : (next_id serial later : ℕ) (row : SessionRow) → serial ≤ later → IsSessionOf next_id serial row → IsSessionOf next_id later row
later_serial next_id serial later row within known = record { below = omega (arith, known.below); principal = known.principal; scope = known.scope }

-- a serial that no session has, and that of a further one isn't either
unknown-push : (serial : ℕ) (rows : List SessionRow) (row : SessionRow) → knows serial_of serial rows ≡ false → nat_eq serial row.serial ≡ false → knows serial_of serial (rows ++ row ∷ []) ≡ false
unknown-push serial [] row none other = rw other refl
unknown-push serial (one ∷ rows) row none other =
    let parts = or_parts (nat_eq serial one.serial) (knows serial_of serial rows) none in
    rw parts.0 (unknown-push serial rows row parts.1 other)

-- and so are the rows with one more session
pub opened-orderly : (s : Rows) (command : Command) (row : SessionRow) → IsSound s → IsWithin s command → row.serial ≡ s.next_serial → IsGiven s.next_id row.principal → NamesGiven s.next_id row.scope
    → IsOrderly (stamped s command (with_session s row))
opened-orderly s command row sound within serial principal scope = record {
  access = sound.orderly.access;
  content = sound.orderly.content;
  ties = sound.orderly.ties;
  tokens = record {
    sessions_rise = KeysRise-push serial_of row s.tokens.sessions sound.orderly.tokens.sessions_rise (subst (λ high. KeysBelow serial_of high s.tokens.sessions) (sym serial) (serials-below s sound));
    sessions = each-push (IsSessionOf s.next_id (s.next_serial + 1)) s.tokens.sessions row (each-weaken (IsSessionOf s.next_id s.next_serial) (IsSessionOf s.next_id (s.next_serial + 1)) s.tokens.sessions (λ kept. later_serial s.next_id s.next_serial (s.next_serial + 1) kept (omega arith)) sound.orderly.tokens.sessions) (record { below = omega (arith, serial); principal = principal; scope = scope });
    tokens_rise = sound.orderly.tokens.tokens_rise;
    tokens = each-weaken (IsTokenOf s.next_id s.next_serial) (IsTokenOf s.next_id (s.next_serial + 1)) s.tokens.tokens (λ kept known. record { below = omega (arith, known.below); principal = known.principal; table = known.table }) sound.orderly.tokens.tokens;
    serials_differ = each-join (IsTokenOf s.next_id s.next_serial) (λ kept. knows serial_of kept.serial s.tokens.sessions ≡ false) (λ kept. knows serial_of kept.serial (s.tokens.sessions ++ row ∷ []) ≡ false) s.tokens.tokens (λ kept known none. unknown-push kept.serial s.tokens.sessions row none (ne_eqb kept.serial row.serial (λ same. omega (arith, known.below, serial, same)))) sound.orderly.tokens.tokens sound.orderly.tokens.serials_differ;
  };
  tokens_fit = sound.orderly.tokens_fit;
  time_bound = within.time;
  charged_bound = within.charged;
}
