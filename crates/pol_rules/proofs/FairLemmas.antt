-- Fair rules: none tells that the run is full, and each is judged alike in the live part of a sound state.
use Rattle.std.proofs.Common.{◌≡◌, ℕ, Bool, false, not, cond, is_some, codes, List, [], ◌∷◌, Option, None, Some, refl, sym, ap, arith}
use Rattle.std.specs.List.{AllByRecursion}
use Rattle.std.specs.Option.{option_map, option_or}
use Rattle.pol_access.specs.Privilege.{text_of}
use Rattle.pol_access.specs.declared.rows.GrantRow.{GrantRow}
use Rattle.pol_access.specs.declared.rows.JoinRow.{JoinRow}
use Rattle.pol_access.specs.declared.rows.MemberRow.{MemberRow}
use Rattle.pol_content.specs.Content.{catalog_named, first_missing}
use Rattle.pol_content.specs.declared.rows.CatalogRow.{CatalogRow}
use Rattle.pol_content.specs.declared.rows.NamespaceRow.{NamespaceRow}
use Rattle.pol_locations.specs.Location.{location_refusal, parse_refusal}
use Rattle.pol_meta.specs.Creation.{create_refusal}
use Rattle.pol_names.specs.declared.identifier.Identifier.{Identifier}
use Rattle.pol_table_rows.specs.Tables.{overlapping}
use Rattle.pol_names.specs.Namespace.{dotted}
use Rattle.pol_properties.specs.Properties.{twice}
use Rattle.pol_properties.specs.declared.property.Property.{Property}
use Rattle.pol_commands.specs.Reply.{is_full}
use Rattle.pol_commands.specs.declared.command.Caller.{Caller}
use Rattle.pol_commands.specs.declared.command.Caller.TheVariants.{Nobody, Bearer, Setup}
use Rattle.pol_commands.specs.declared.command.Command.{Command}
use Rattle.pol_commands.specs.declared.create_table.CreateTable.{CreateTable}
use Rattle.pol_commands.specs.declared.grants.Grant.{Grant}
use Rattle.pol_commands.specs.declared.grants.GrantedOn.{GrantedOn}
use Rattle.pol_commands.specs.declared.grants.GrantedOn.TheVariants as on
use Rattle.pol_commands.specs.declared.reply.OptionName.TheVariants as option
use Rattle.pol_commands.specs.declared.reply.Refusal.{Refusal}
use Rattle.pol_commands.specs.declared.reply.Refusal.TheVariants.{BadLocation, Forbidden, InvalidClient, InvalidScope, KeyTwice, LocationOutside, LocationOverlap, NameTaken, NoCatalogue, NoNamespace, NoSuchRole, NoTable, NoView, NotEmpty, Reserved, Unauthenticated, Unsupported, UpdateRefused}
use Rattle.pol_state.specs.Rows.{Rows}
use Rattle.pol_state.specs.Sound.{IsSound}
use Rattle.pol_rules.specs.AccessRules.{in_catalog, in_realm, no_catalog_role, no_grant, no_join, no_member, no_principal, no_principal_role, no_securable, reserved, reserved_grant, reserved_join, reserved_member}
use Rattle.pol_rules.specs.Live.{live_part}
use Rattle.pol_rules.specs.Needs.{caller_may, first_unmet, forbidden, session_may, shown}
use Rattle.pol_state.specs.Bounds.{limits, over_limit, refuse_if}
use Rattle.pol_rules.specs.Rules.{bad_text, bad_texts, catalog_holds, client_of, given, inside, invalid_client, invalid_scope, is_signed_in, key_twice, namespace_holds, no_catalogue, no_namespace, no_parent, time_of, unauthenticated, unsupported_type, name_taken}
use Rattle.pol_access.specs.declared.privilege.Privilege.{Privilege}
use Rattle.pol_rules.specs.Prologues.{at_table, at_view, on_namespace}
use Rattle.pol_rules.specs.TableRules.{bad_creation, bad_location, default_location, location_outside, location_overlap, no_table, other_format, staged}
use Rattle.pol_rules.specs.ViewRules.{no_view}
use Rattle.pol_rules.specs.declared.needs.Need.{Need}
use Rattle.pol_rules.proofs.LiveLemmas.{session-live}
use Rattle.pol_rules.proofs.RulesLemmas.{either-other, first-other, refuse_if-other, tells_full}

-- a rule in a state is fair beside the same rule in the state's live part
pub record IsFair (s : Rows) (rule live : Option Refusal) : Type 0 where
  pub other : tells_full rule ≡ false
  pub alike : IsSound s → rule ≡ live

-- and so is each of a list
pub record AreFair (s : Rows) (rules live : List (Option Refusal)) : Type 0 where
  pub others : AllByRecursion (λ rule. tells_full rule ≡ false) rules
  pub alike : IsSound s → rules ≡ live

pub none-fair : {s : Rows} → AreFair s [] []
none-fair = record { others = tt; alike = λ sound. refl }

infixr 20 ◌⊳◌
pub ◌⊳◌ : {s : Rows} {rule one : Option Refusal} {rules ones : List (Option Refusal)} → IsFair s rule one → AreFair s rules ones → AreFair s (rule ∷ rules) (one ∷ ones)
first ⊳ rest = record {
  others = (first.other, rest.others);
  alike = λ sound i. first.alike sound i ∷ rest.alike sound i;
}

-- the rule on bounds tells of bounds alone
pub limit-other : (rows : Rows) → tells_full (over_limit rows) ≡ false
unfolding over_limit
limit-other rows =
    first-other (limits rows) (refuse_if-other _ _ refl, (refuse_if-other _ _ refl, (refuse_if-other _ _ refl, (refuse_if-other _ _ refl, (refuse_if-other _ _ refl, (refuse_if-other _ _ refl, (refuse_if-other _ _ refl, (refuse_if-other _ _ refl, (refuse_if-other _ _ refl, (refuse_if-other _ _ refl, (refuse_if-other _ _ refl, (refuse_if-other _ _ refl, (refuse_if-other _ _ refl, (refuse_if-other _ _ refl, (refuse_if-other _ _ refl, (refuse_if-other _ _ refl, (refuse_if-other _ _ refl, (refuse_if-other _ _ refl, (refuse_if-other _ _ refl, (refuse_if-other _ _ refl, (refuse_if-other _ _ refl, (refuse_if-other _ _ refl, (refuse_if-other _ _ refl, (refuse_if-other _ _ refl, (refuse_if-other _ _ refl, (refuse_if-other _ _ refl, (refuse_if-other _ _ refl, tt)))))))))))))))))))))))))))

module _ {s : Rows} where
  -- a rule that doesn't look at the sessions
  pub fair-same : {rule : Option Refusal} → tells_full rule ≡ false → IsFair s rule rule
  fair-same other = record { other = other; alike = λ sound. refl }

  pub fair-if : (test : Bool) (why : Refusal) → is_full why ≡ false → IsFair s (refuse_if test why) (refuse_if test why)
  fair-if test why other = fair-same (refuse_if-other test why other)

  -- a refusal that is made of what was found
  pub fair-mapped : {A : Type 0} (found : Option A) (why : A → Refusal) → ((one : A) → is_full (why one) ≡ false) → IsFair s (option_map why found) (option_map why found)
  fair-mapped None why other = fair-same refl
  fair-mapped (Some one) why other = fair-same (other one)

  pub fair-either : {first one second two : Option Refusal} → IsFair s first one → IsFair s second two → IsFair s (option_or first second) (option_or one two)
  fair-either fair next = record {
    other = either-other _ _ fair.other next.other;
    alike = λ sound i. option_or (fair.alike sound i) (next.alike sound i);
  }

  -- a rule on what was found
  pub fair-given : {A : Type 0} (found : Option A) {rule live : A → Option Refusal} → ((one : A) → IsFair s (rule one) (live one)) → IsFair s (given found rule) (given found live)
  fair-given None fair = fair-same refl
  fair-given (Some one) fair = fair one

  pub fair-inside : (name : List ℕ) {rule live : CatalogRow → Option Refusal} → ((catalog : CatalogRow) → IsFair s (rule catalog) (live catalog)) → IsFair s (inside s name rule) (inside (live_part s) name live)
  fair-inside name fair = fair-given (catalog_named name s.content) fair

  -- rules on the caller and its needs
  module _ (command : Command) where
    signed_in : IsSound s → (caller : Caller) → is_signed_in s (time_of s command) caller ≡ is_signed_in (live_part s) (time_of s command) caller
    signed_in sound Nobody = refl
    signed_in sound (Bearer text) = ap is_some (sym (session-live s sound (time_of s command) text (omega arith)))
    signed_in sound Setup = refl

    pub fair-caller : IsFair s (unauthenticated s command) (unauthenticated (live_part s) command)
    unfolding unauthenticated
    fair-caller = record {
      other = refuse_if-other _ Unauthenticated refl;
      alike = λ sound. ap (λ is. refuse_if (not is) Unauthenticated) (signed_in sound command.caller);
    }

    pub caller-may : IsSound s → (caller : Caller) (need : Need) → caller_may s (time_of s command) caller need ≡ caller_may (live_part s) (time_of s command) caller need
    caller-may sound Nobody need = refl
    caller-may sound (Bearer text) need =
        ap (λ found. session_may s found need) (sym (session-live s sound (time_of s command) text (omega arith)))
    caller-may sound Setup need = refl

    unmet-alike : IsSound s → (needs : List Need) → first_unmet s command needs ≡ first_unmet (live_part s) command needs
    unfolding first_unmet
    unmet-alike sound [] = refl
    unmet-alike sound (need ∷ needs) =
        λ i. cond (not (caller-may sound command.caller need i)) (Some need) (unmet-alike sound needs i)

    pub fair-need : (needs : List Need) → IsFair s (forbidden s command needs) (forbidden (live_part s) command needs)
    unfolding forbidden
    fair-need needs =
        let why : Need → Refusal = λ need. Forbidden need.privilege (shown s need.on) in
        record {
          other = (fair-mapped (first_unmet s command needs) why (λ need. refl)).other;
          alike = λ sound. ap (option_map why) (unmet-alike sound needs);
        }

  -- rules on clients, catalogues and namespaces
  pub fair-client : (client_id secret : List ℕ) → IsFair s (invalid_client s client_id secret) (invalid_client (live_part s) client_id secret)
  unfolding client_of invalid_client
  fair-client client_id secret = fair-if _ InvalidClient refl

  pub fair-scope : (principal : ℕ) (scopes : List (List ℕ)) → IsFair s (invalid_scope s principal scopes) (invalid_scope (live_part s) principal scopes)
  unfolding invalid_scope
  fair-scope principal scopes = fair-if _ InvalidScope refl

  pub fair-no_catalogue : (name : List ℕ) → IsFair s (no_catalogue s name) (no_catalogue (live_part s) name)
  unfolding no_catalogue
  fair-no_catalogue name = fair-if _ (NoCatalogue name) refl

  pub fair-name_taken : {A : Type 0} (found : Option A) (name : List ℕ) → IsFair s (name_taken found name) (name_taken found name)
  unfolding name_taken
  fair-name_taken found name = fair-if (is_some found) (NameTaken name) refl

  pub fair-catalog_holds : (catalog : CatalogRow) → IsFair s (catalog_holds s catalog) (catalog_holds (live_part s) catalog)
  unfolding catalog_holds
  fair-catalog_holds catalog = fair-if _ (NotEmpty catalog.name) refl

  pub fair-namespace_holds : (namespace : NamespaceRow) → IsFair s (namespace_holds s namespace) (namespace_holds (live_part s) namespace)
  unfolding namespace_holds
  fair-namespace_holds namespace = fair-if _ (NotEmpty (dotted namespace.levels)) refl

  pub fair-no_namespace : (catalog : ℕ) (levels : List (List ℕ)) → IsFair s (no_namespace s catalog levels) (no_namespace (live_part s) catalog levels)
  unfolding no_namespace
  fair-no_namespace catalog levels = fair-mapped (first_missing catalog levels s.content) NoNamespace (λ path. refl)

  pub fair-no_parent : (catalog : ℕ) (parent : Option (List (List ℕ))) → IsFair s (no_parent s catalog parent) (no_parent (live_part s) catalog parent)
  fair-no_parent catalog None = fair-same refl
  fair-no_parent catalog (Some parent) = fair-no_namespace catalog parent

  pub fair-key_twice : (removals : List (List ℕ)) (updates : List Property) → IsFair s (key_twice removals updates) (key_twice removals updates)
  unfolding key_twice
  fair-key_twice removals updates = fair-mapped (twice removals updates) KeyTwice (λ key. refl)

  pub fair-bad_text : (text : List ℕ) → IsFair s (bad_text text) (bad_text text)
  unfolding bad_text
  fair-bad_text text = fair-mapped (parse_refusal text) (BadLocation 0) (λ why. refl)

  pub fair-bad_texts : (texts : List (List ℕ)) → IsFair s (bad_texts texts) (bad_texts texts)
  unfolding bad_texts
  fair-bad_texts [] = fair-same refl
  fair-bad_texts (text ∷ texts) = fair-either (fair-bad_text text) (fair-bad_texts texts)

  pub fair-unsupported_type : (external : Bool) → IsFair s (unsupported_type external) (unsupported_type external)
  unfolding unsupported_type
  fair-unsupported_type external = fair-if external (Unsupported option.Type) refl

  -- rules on tables and views
  pub fair-no_table : (identifier : Identifier) (catalog : CatalogRow) → IsFair s (no_table s identifier catalog) (no_table (live_part s) identifier catalog)
  unfolding no_table
  fair-no_table identifier catalog = fair-if _ (NoTable identifier) refl

  pub fair-no_view : (identifier : Identifier) (catalog : CatalogRow) → IsFair s (no_view s identifier catalog) (no_view (live_part s) identifier catalog)
  unfolding no_view
  fair-no_view identifier catalog = fair-if _ (NoView identifier) refl

  pub fair-bad_creation : (request : CreateTable) → IsFair s (bad_creation request) (bad_creation request)
  unfolding bad_creation
  fair-bad_creation request =
      fair-mapped (create_refusal request.schema request.partition_spec request.write_order) (UpdateRefused 0 0) (λ why. refl)

  pub fair-bad_location : (levels : List (List ℕ)) (given : Option (List ℕ)) (name : List ℕ) (catalog : CatalogRow) → IsFair s (bad_location levels given name catalog) (bad_location levels given name catalog)
  unfolding bad_location
  fair-bad_location levels None name catalog = fair-mapped (location_refusal (default_location catalog levels name)) (BadLocation 0) (λ why. refl)
  fair-bad_location levels (Some text) name catalog = fair-bad_text text

  pub fair-location_outside : (location : List (List ℕ)) (catalog : CatalogRow) → IsFair s (location_outside location catalog) (location_outside location catalog)
  unfolding location_outside
  fair-location_outside location catalog = fair-if _ (LocationOutside location) refl

  pub fair-location_overlap : (location : List (List ℕ)) → IsFair s (location_overlap s location) (location_overlap (live_part s) location)
  unfolding location_overlap
  fair-location_overlap location =
      fair-mapped (overlapping location [] s.content.tables) (λ row. LocationOverlap location row.location) (λ row. refl)

  pub fair-staged : (stage_create : Bool) → IsFair s (staged stage_create) (staged stage_create)
  unfolding staged
  fair-staged stage_create = fair-if stage_create (Unsupported option.StageCreate) refl

  pub fair-other_format : (properties : List Property) → IsFair s (other_format properties) (other_format properties)
  unfolding other_format
  fair-other_format properties = fair-if _ (Unsupported option.FormatVersion) refl

  -- rules on principals, roles, members, joins and grants
  pub fair-no_principal : (name : List ℕ) → IsFair s (no_principal s name) (no_principal (live_part s) name)
  unfolding no_principal
  fair-no_principal name = fair-if _ (NoSuchRole name) refl

  pub fair-no_principal_role : (name : List ℕ) → IsFair s (no_principal_role s name) (no_principal_role (live_part s) name)
  unfolding no_principal_role
  fair-no_principal_role name = fair-if _ (NoSuchRole name) refl

  pub fair-no_catalog_role : (name : List ℕ) (catalog : CatalogRow) → IsFair s (no_catalog_role s name catalog) (no_catalog_role (live_part s) name catalog)
  unfolding no_catalog_role
  fair-no_catalog_role name catalog = fair-if _ (NoSuchRole name) refl

  pub fair-no_securable : (named : GrantedOn) (catalog : CatalogRow) → IsFair s (no_securable s named catalog) (no_securable (live_part s) named catalog)
  fair-no_securable on.Catalog catalog = fair-same refl
  fair-no_securable (on.Namespace levels) catalog = fair-no_namespace catalog.id levels
  fair-no_securable (on.Table identifier) catalog = fair-either (fair-no_namespace catalog.id identifier.namespace) (fair-no_table identifier catalog)
  fair-no_securable (on.View identifier) catalog = fair-either (fair-no_namespace catalog.id identifier.namespace) (fair-no_view identifier catalog)

  pub fair-no_member : (role : List ℕ) (row : MemberRow) → IsFair s (no_member s role row) (no_member (live_part s) role row)
  unfolding no_member
  fair-no_member role row = fair-if _ (NoSuchRole role) refl

  pub fair-no_join : (catalog_role : List ℕ) (row : JoinRow) → IsFair s (no_join s catalog_role row) (no_join (live_part s) catalog_role row)
  unfolding no_join
  fair-no_join catalog_role row = fair-if _ (NoSuchRole catalog_role) refl

  pub fair-no_grant : (row : GrantRow) → IsFair s (no_grant s row) (no_grant (live_part s) row)
  unfolding no_grant
  fair-no_grant row = fair-if _ (NoSuchRole (text_of row.privilege)) refl

  pub fair-reserved : (kept name : List ℕ) → IsFair s (reserved kept name) (reserved kept name)
  unfolding reserved
  fair-reserved kept name = fair-if _ (Reserved kept) refl

  pub fair-reserved_member : (principal role : List ℕ) → IsFair s (reserved_member principal role) (reserved_member principal role)
  unfolding reserved_member
  fair-reserved_member principal role = fair-if _ (Reserved (codes "root")) refl

  pub fair-reserved_join : (role catalog_role : List ℕ) → IsFair s (reserved_join role catalog_role) (reserved_join role catalog_role)
  unfolding reserved_join
  fair-reserved_join role catalog_role = fair-if _ (Reserved (codes "catalog_admin")) refl

  pub fair-reserved_grant : (role : List ℕ) (grant : Grant) → IsFair s (reserved_grant role grant) (reserved_grant role grant)
  unfolding reserved_grant
  fair-reserved_grant role grant = fair-if _ (Reserved (codes "catalog_admin")) refl

  -- the rules of an action that manages the realm, and of one that manages the access of a catalogue
  module _ (command : Command) {rules live : List (Option Refusal)} where
    pub fair-in_realm : AreFair s rules live → AreFair s (in_realm s command rules) (in_realm (live_part s) command live)
    fair-in_realm fair = fair-caller command ⊳ fair-need command _ ⊳ fair

    pub fair-in_catalog : (name : List ℕ) → AreFair s rules live → AreFair s (in_catalog s command name rules) (in_catalog (live_part s) command name live)
    fair-in_catalog name fair = fair-caller command ⊳ fair-no_catalogue name ⊳ fair-inside name (λ catalog. fair-need command _) ⊳ fair

    -- and those of an action on a namespace, on a table, and on a view, that must be there
    pub fair-on_namespace : (privilege : Privilege) (name : List ℕ) (levels : List (List ℕ)) → AreFair s rules live → AreFair s (on_namespace s command privilege name levels rules) (on_namespace (live_part s) command privilege name levels live)
    fair-on_namespace privilege name levels fair =
        fair-caller command ⊳ fair-no_catalogue name ⊳ fair-inside name (λ catalog. fair-need command _) ⊳ fair-inside name (λ catalog. fair-no_namespace catalog.id levels) ⊳ fair

    pub fair-at_table : (privilege : Privilege) (name : List ℕ) (identifier : Identifier) → AreFair s rules live → AreFair s (at_table s command privilege name identifier rules) (at_table (live_part s) command privilege name identifier live)
    fair-at_table privilege name identifier fair =
        fair-caller command ⊳ fair-no_catalogue name ⊳ fair-inside name (λ catalog. fair-need command _) ⊳ fair-inside name (λ catalog. fair-no_namespace catalog.id identifier.namespace) ⊳ fair-inside name (fair-no_table identifier) ⊳ fair

    pub fair-at_view : (privilege : Privilege) (name : List ℕ) (identifier : Identifier) → AreFair s rules live → AreFair s (at_view s command privilege name identifier rules) (at_view (live_part s) command privilege name identifier live)
    fair-at_view privilege name identifier fair =
        fair-caller command ⊳ fair-no_catalogue name ⊳ fair-inside name (λ catalog. fair-need command _) ⊳ fair-inside name (λ catalog. fair-no_namespace catalog.id identifier.namespace) ⊳ fair-inside name (fair-no_view identifier) ⊳ fair
