-- Rules: what refuses a command, in the order in which an action lists its rules.
use Rattle.std.specs.Prelude.{ℕ, ◌+◌, ◌^◌, max, Bool, true, false, not, nat_lt, ◌||◌, ◌++◌, List, [], ◌∷◌, Option, Some, None, is_some, is_none, if◌then◌else◌, codes}
use Rattle.std.specs.List.{find, list_all}
use Rattle.std.specs.Option.{option_map, option_or}
use Rattle.std.specs.Str.{bytes_eq}
use Rattle.pol_access.specs.Access.{AccessRows, has_other_role, principal_id, is_member}
use Rattle.pol_access.specs.Names.{principal_of_client}
use Rattle.pol_access.specs.declared.rows.PrincipalRow.{PrincipalRow}
use Rattle.pol_access.specs.declared.rows.PrincipalRoleRow.{PrincipalRoleRow}
use Rattle.pol_content.specs.Content.{catalog_is_empty, catalog_named, first_missing, is_empty}
use Rattle.pol_content.specs.declared.rows.CatalogRow.{CatalogRow}
use Rattle.pol_content.specs.declared.rows.NamespaceRow.{NamespaceRow}
use Rattle.pol_locations.specs.Location.{parse_refusal}
use Rattle.pol_names.specs.Namespace.{dotted}
use Rattle.pol_properties.specs.Properties.{twice}
use Rattle.pol_properties.specs.declared.property.Property.{Property}
use Rattle.pol_tables.specs.Table.{knows}
use Rattle.pol_tokens.specs.Tokens.{find_session}
use Rattle.pol_tokens.specs.declared.session.SessionRow.{SessionRow}
use Rattle.pol_state.specs.Bounds.{refuse_if}
use Rattle.pol_state.specs.Rows.{Rows, digest_of}
use Rattle.pol_commands.specs.declared.command.Caller.{Caller}
use Rattle.pol_commands.specs.declared.command.Caller.TheVariants.{Nobody, Bearer, Setup}
use Rattle.pol_commands.specs.declared.command.Command.{Command}
use Rattle.pol_commands.specs.declared.reply.OptionName.TheVariants as option
use Rattle.pol_commands.specs.declared.reply.Refusal.{Refusal}
use Rattle.pol_commands.specs.declared.reply.Refusal.TheVariants.{RunFull, InvalidClient, InvalidScope, Unauthenticated, NoCatalogue, NoNamespace, NameTaken, NotEmpty, KeyTwice, BadLocation, Unsupported}

-- a rule on what an earlier rule has found; where nothing was found, the earlier rule has refused already
abbrev pub given : {A : Type 0} → Option A → (A → Option Refusal) → Option Refusal
given None rule = None
given (Some found) rule = rule found

-- the charges of the run and this charge are above 2^30 together
unfoldable pub run_full : Rows → ℕ → Option Refusal
run_full s charge = refuse_if (nat_lt (2 ^ 30) (s.charged + charge)) (RunFull s.charged charge)

-- what was found, where it passes the test
abbrev pub kept_if : {A : Type 0} → (A → Bool) → Option A → Option A
kept_if test None = None
kept_if test (Some found) = if test found then Some found else None

-- the principal that has this client id with this secret
unfoldable pub client_of : Rows → List ℕ → List ℕ → Option PrincipalRow
client_of s client_id secret =
    kept_if (λ row. bytes_eq row.digest (digest_of secret)) (principal_of_client client_id s.access)

-- no principal has this client id with this secret
unfoldable pub invalid_client : Rows → List ℕ → List ℕ → Option Refusal
invalid_client s client_id secret = refuse_if (is_none (client_of s client_id secret)) InvalidClient

-- the scope of all roles, and that of the role of a name
abbrev pub all_roles : List ℕ
all_roles = codes "PRINCIPAL_ROLE:ALL"

abbrev pub role_scope : List ℕ → List ℕ
role_scope name = codes "PRINCIPAL_ROLE:" ++ name

-- the role that a scope names
unfoldable pub role_of_scope : AccessRows → List ℕ → Option PrincipalRoleRow
role_of_scope access scope = find (λ row. bytes_eq scope (role_scope row.name)) access.principal_roles

-- the id of the role of this principal that a scope names
unfoldable pub held_role : AccessRows → ℕ → List ℕ → Option ℕ
held_role access principal scope =
    option_map (λ row. row.id) (kept_if (λ row. is_member principal row.id access) (role_of_scope access scope))

-- whether the scope is that of all roles, or names a role of the principal
unfoldable pub is_scope : AccessRows → ℕ → List ℕ → Bool
is_scope access principal scope = bytes_eq scope all_roles || is_some (held_role access principal scope)

-- a scope is neither all roles nor a role of the principal
unfoldable pub invalid_scope : Rows → ℕ → List (List ℕ) → Option Refusal
invalid_scope s principal scopes = refuse_if (not (list_all (is_scope s.access principal) scopes)) InvalidScope

-- the time of a command: the greater of the state's and its moment
abbrev pub time_of : Rows → Command → ℕ
time_of s command = max s.time command.moment

-- the unexpired session of a caller's text, where its principal is there
unfoldable pub session_of : Rows → ℕ → List ℕ → Option SessionRow
session_of s time text =
    kept_if (λ row. knows principal_id row.principal s.access.principals) (find_session text time s.tokens)

-- whether a caller may ask at all: who sets the catalogue up may, and the bearer of a session's text
abbrev pub is_signed_in : Rows → ℕ → Caller → Bool
is_signed_in s time Nobody = false
is_signed_in s time (Bearer text) = is_some (session_of s time text)
is_signed_in s time Setup = true

unfoldable pub unauthenticated : Rows → Command → Option Refusal
unauthenticated s command = refuse_if (not (is_signed_in s (time_of s command) command.caller)) Unauthenticated

-- no catalogue has this name
unfoldable pub no_catalogue : Rows → List ℕ → Option Refusal
no_catalogue s name = refuse_if (is_none (catalog_named name s.content)) (NoCatalogue name)

-- a rule on the catalogue of a name
abbrev pub inside : Rows → List ℕ → (CatalogRow → Option Refusal) → Option Refusal
inside s name rule = given (catalog_named name s.content) rule

-- a namespace isn't there; the first on its path that isn't is told
unfoldable pub no_namespace : Rows → ℕ → List (List ℕ) → Option Refusal
no_namespace s catalog levels = option_map NoNamespace (first_missing catalog levels s.content)

-- the namespace that is named, if one is, isn't there
abbrev pub no_parent : Rows → ℕ → Option (List (List ℕ)) → Option Refusal
no_parent s catalog None = None
no_parent s catalog (Some parent) = no_namespace s catalog parent

-- what was found has the name already
unfoldable pub name_taken : {A : Type 0} → Option A → List ℕ → Option Refusal
name_taken found name = refuse_if (is_some found) (NameTaken name)

-- a catalogue has a namespace, or a role beside `catalog_admin`, and a namespace has a deeper one, a table or a view
unfoldable pub catalog_holds : Rows → CatalogRow → Option Refusal
catalog_holds s catalog =
    refuse_if (not (catalog_is_empty catalog.id s.content) || has_other_role catalog.id (codes "catalog_admin") s.access) (NotEmpty catalog.name)

unfoldable pub namespace_holds : Rows → NamespaceRow → Option Refusal
namespace_holds s namespace = refuse_if (not (is_empty namespace.id s.content)) (NotEmpty (dotted namespace.levels))

-- a key is both removed and set; the first of the removals that is told
unfoldable pub key_twice : List (List ℕ) → List Property → Option Refusal
key_twice removals updates = option_map KeyTwice (twice removals updates)

-- a text is no location, and of several texts the first such is told
unfoldable pub bad_text : List ℕ → Option Refusal
bad_text text = option_map (BadLocation 0) (parse_refusal text)

unfoldable pub bad_texts : List (List ℕ) → Option Refusal
bad_texts [] = None
bad_texts (text ∷ texts) = option_or (bad_text text) (bad_texts texts)

-- the catalogue isn't kept here
unfoldable pub unsupported_type : Bool → Option Refusal
unsupported_type external = refuse_if external (Unsupported option.Type)
