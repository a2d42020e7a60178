-- What each action on sessions, catalogues and namespaces owes.
use Rattle.std.proofs.Common.{◌≡◌, ◌==◌, ℕ, ◌+◌, Bool, true, codes, List, [], ◌∷◌, ◌++◌, filter, Option, None, Some, refl, sym, ap, subst, ◌∙◌, is_some, arith}
use Rattle.std.proofs.lemmas.List.Elements.{filter-append}
use Rattle.pol_access.specs.Access.{catalog_role_id}
use Rattle.pol_access.specs.Names.{principal_role_named}
use Rattle.pol_access.specs.Order.{grant_cmp, join_cmp}
use Rattle.pol_access.specs.Referent.{grant_names, join_names}
use Rattle.pol_access.specs.contracts.rows.CatalogRoleRow as catalog_role
use Rattle.pol_access.specs.contracts.rows.GrantRow as grant
use Rattle.pol_access.specs.contracts.rows.JoinRow as join
use Rattle.pol_access.specs.declared.referent.Referent.TheVariants as referent
use Rattle.pol_access.specs.declared.rows.PrincipalRow.{PrincipalRow}
use Rattle.pol_access.specs.declared.securable.Securable.TheVariants as securable
use Rattle.pol_tables.specs.Rising.{KeysBelow}
use Rattle.pol_tables.specs.Same.{same}
use Rattle.pol_tables.proofs.RisingLemmas.{KeysBelow-filter, knows-below}
use Rattle.pol_tables.proofs.SameLemmas.{same-true}
use Rattle.pol_tokens.specs.Tokens.{serial_of}
use Rattle.pol_tokens.specs.declared.session.SessionRow.{SessionRow}
use Rattle.pol_content.specs.Content.{catalog_named, namespace_named, catalog_id, namespace_id}
use Rattle.pol_content.specs.contracts.rows.NamespaceRow as namespace
use Rattle.pol_content.specs.declared.change.Change.TheVariants.{DropCatalogRole, PutNamespace, DropJoin, DropGrant}
use Rattle.pol_content.specs.declared.rows.NamespaceRow.{NamespaceRow}
use Rattle.pol_names.specs.Namespace.{parent_of, dotted}
use Rattle.pol_properties.specs.Properties.{pairs_updated}
use Rattle.pol_properties.specs.declared.property.Property.{Property}
use Rattle.pol_commands.specs.declared.command.Command.{Command}
use Rattle.pol_state.specs.Rows.{Rows}
use Rattle.pol_state.specs.Sound.{IsOrderly, IsSound}
use Rattle.pol_state.proofs.AppliedLemmas.{and_then, facts-dropped, rows-dropped}
use Rattle.pol_rules.specs.Acting.{stamped, Acting}
use Rattle.pol_rules.specs.Live.{is_live, live_part}
use Rattle.pol_state.specs.Bounds.{over_limit}
use Rattle.pol_rules.specs.Prologues.{namespace_row_at}
use Rattle.pol_rules.specs.Rules.{client_of, time_of, name_taken, no_parent, given}
use Rattle.pol_rules.proofs.FairLemmas.{none-fair, ◌⊳◌, IsFair, fair-same, fair-bad_text, fair-bad_texts, fair-caller, fair-catalog_holds, fair-client, fair-given, fair-in_realm, fair-inside, fair-key_twice, fair-name_taken, fair-namespace_holds, fair-need, fair-no_catalogue, fair-no_parent, fair-on_namespace, fair-scope, fair-unsupported_type}
use Rattle.pol_rules.proofs.FoundLemmas.{catalog-own}
use Rattle.pol_rules.proofs.LeadsLemmas.{leads-by, leads-one}
use Rattle.pol_rules.proofs.OwesLemmas.{live-after, none-returns, tokens-after, owes-apart, owes-done, owes-reading, owes-same, with_tokens, DoSame, Owes, OwesRows}
use Rattle.pol_rules.proofs.SoundLemmas.{stamped-orderly, IsWithin, orderly-done, next_id-some, tables-orderly}
use Rattle.pol_tables.proofs.TableLemmas.{is_some-row_of}
use Rattle.pol_content.proofs.SoundLemmas.{pushed_namespace, whole_path, new_rows_last}
use Rattle.pol_rules.proofs.RulesLemmas.{name-free}
use Rattle.pol_access.proofs.SoundLemmas.{more_ids as access_more_ids}
use Rattle.pol_content.specs.Sound.{IsSoundContent}
use Rattle.pol_content.proofs.TiedContentLemmas.{put_namespace}
use Rattle.pol_tables.proofs.NumberedLemmas.{below-next}
use Rattle.pol_content.specs.declared.rows.CatalogRow.{CatalogRow}
use Rattle.pol_token_rules.specs.Counts.{too_many_sessions}
use Rattle.pol_token_rules.proofs.FairTokenLemmas.{fair-too_many_sessions}
use Rattle.pol_content_actions.specs.Catalogs.{create_catalog, drop_catalog, get_catalog, get_config, list_catalogs, new_catalog, with_catalog, without_catalog}
use Rattle.pol_content_actions.specs.Namespaces.{create_namespace, drop_namespace, head_namespace, list_namespaces, load_namespace, update_properties, with_altered, with_new_namespace, with_properties, without_namespace}
use Rattle.pol_content_actions.specs.Sessions.{open_session, opened, scope_of, session_opened, with_session}
use Rattle.pol_content_actions.proofs.ActionLemmas.{namespace-own, orderly-create_catalog, orderly-drop_catalog, orderly-drop_namespace, orderly-update_properties, unaltered, none-unknown, path-whole}
use Rattle.pol_content_actions.proofs.ChangesLemmas.{admin-last, changes-altered, changes-opened, changes-with_catalog, changes-without_catalog, changes-without_namespace, namespace_changes, unknown-later}
use Rattle.pol_content_actions.proofs.SessionsLemmas.{leads-opened, opened-below}
use Rattle.pol_content_actions.proofs.SoundLemmas.{client-given, client-known, opened-orderly, scope-given}

module _ (s : Rows) (command : Command) where
  abbrev live : Rows
  live = live_part s

  -- each action owes this, where it is like in the live part
  abbrev OwesAlike : (Rows → Acting) → Type 0
  OwesAlike act = Owes s command (act s) (act live)

  -- a session that is opened is the same one
  opened-alike : (scopes : List (List ℕ)) (principal : PrincipalRow) → opened s command scopes principal ≡ opened live command scopes principal
  unfolding opened scope_of
  opened-alike scopes principal = refl

  same-session : (row : SessionRow) → KeysBelow serial_of row.serial s.tokens.sessions → DoSame s (stamped s command (with_session s row)) (stamped live command (with_session live row))
  same-session row below =
      let after : Rows = stamped s command (with_session s row) in
      record {
        changes = changes-opened s row below (time_of s command) (s.charged + command.charge)
            ∙ sym (changes-opened live row (KeysBelow-filter serial_of row.serial (is_live s) s.tokens.sessions below) (time_of s command) (s.charged + command.charge));
        agree = λ i. with_tokens (record {
          sessions = (
              filter-append (is_live after) s.tokens.sessions (row ∷ [])
              ∙ ap (λ kept. kept ++ filter (is_live after) (row ∷ [])) (live-after s command s (none-returns s command))
              ∙ sym (filter-append (is_live after) (filter (is_live s) s.tokens.sessions) (row ∷ []))
              ) i;
          tokens = tokens-after s command s i;
        }) after;
      }

  bounds-session : (row one : SessionRow) → over_limit (with_session s row) ≡ over_limit (with_session live one)
  unfolding over_limit
  bounds-session row one = refl

  rows-opened : (scopes : List (List ℕ)) (client : Option PrincipalRow) → OwesRows s command (session_opened s command scopes client) (session_opened live command scopes client)
  rows-opened scopes None = owes-same s command
  rows-opened scopes (Some principal) = record {
    leads = λ sound. leads-opened s command scopes principal sound;
    same = λ sound. subst (λ row. DoSame s (stamped s command (with_session s (opened s command scopes principal))) (stamped live command (with_session live row))) (opened-alike scopes principal) (same-session (opened s command scopes principal) (opened-below s command scopes principal sound));
    bounds = λ sound. bounds-session (opened s command scopes principal) (opened live command scopes principal);
  }

  orderly-opened : (client_id secret : List ℕ) (scopes : List (List ℕ)) → IsSound s → IsWithin s command
      → (client : Option PrincipalRow) → client_of s client_id secret ≡ client → IsOrderly (stamped s command (session_opened s command scopes client))
  unfolding opened
  orderly-opened client_id secret scopes sound within None found = stamped-orderly s command sound.orderly within
  orderly-opened client_id secret scopes sound within (Some principal) found =
      opened-orderly s command (opened s command scopes principal) sound within refl (client-given s client_id secret principal sound found) (scope-given s principal.id scopes sound)

  -- a client's principal is there, so its live sessions are all that count
  fair-few : (client_id secret : List ℕ) (client : Option PrincipalRow) → client_of s client_id secret ≡ client
      → IsFair s (given client (λ (principal : PrincipalRow). too_many_sessions s command principal.id)) (given client (λ (principal : PrincipalRow). too_many_sessions live command principal.id))
  fair-few client_id secret None is = fair-same refl
  fair-few client_id secret (Some principal) is =
      fair-too_many_sessions command principal.id (client-known s client_id secret principal is)

  pub owes-open_session : (client_id secret : List ℕ) (scopes : List (List ℕ)) → OwesAlike (λ t. open_session t command client_id secret scopes)
  unfolding client_of
  owes-open_session client_id secret scopes = record {
    rows = rows-opened scopes (client_of s client_id secret);
    orderly = λ sound within passes. orderly-opened client_id secret scopes sound within (client_of s client_id secret) refl;
    fair = fair-client client_id secret ⊳ fair-given (client_of s client_id secret) (λ principal. fair-scope principal.id scopes) ⊳ fair-few client_id secret (client_of s client_id secret) refl ⊳ none-fair;
    answer = λ sound. refl;
  }

  -- catalogues
  pub owes-get_config : (name : List ℕ) → OwesAlike (λ t. get_config t command name)
  owes-get_config name = owes-reading s command (fair-caller command ⊳ fair-no_catalogue name ⊳ none-fair)

  pub owes-list_catalogs : OwesAlike (λ t. list_catalogs t command)
  owes-list_catalogs = owes-reading s command (fair-in_realm command none-fair)

  pub owes-create_catalog : (name base : List ℕ) (allowed : List (List ℕ)) (properties : List Property) (external : Bool) → OwesAlike (λ t. create_catalog t command name base allowed properties external)
  owes-create_catalog name base allowed properties external =
      let row = new_catalog s name base allowed properties in
      record {
        rows = owes-done s command (principal_role_named (codes "service_admin") s.access) (with_catalog s row) (with_catalog live row) (λ role found. owes-apart s command (with_catalog s row role) refl (λ sound.
            let admin = admin-last s sound row.id role.id refl in
            leads-by s command (with_catalog s row role) _ (changes-with_catalog s sound (time_of s command) (s.charged + command.charge) row role refl admin.0 admin.1) refl));
        orderly = λ sound within passes. orderly-create_catalog s command sound within name base allowed properties external passes;
        fair = fair-in_realm command (fair-name_taken _ name ⊳ fair-bad_text base ⊳ fair-bad_texts allowed ⊳ fair-unsupported_type external ⊳ none-fair);
        answer = λ sound. refl;
      }

  pub owes-get_catalog : (name : List ℕ) → OwesAlike (λ t. get_catalog t command name)
  owes-get_catalog name =
      owes-reading s command (fair-caller command ⊳ fair-no_catalogue name ⊳ fair-inside name (λ catalog. fair-need command _) ⊳ none-fair)

  pub owes-drop_catalog : (name : List ℕ) → OwesAlike (λ t. drop_catalog t command name)
  owes-drop_catalog name = record {
    rows = owes-done s command (catalog_named name s.content) _ _ (λ row found. owes-apart s command (without_catalog s row) refl (λ sound.
        let named = referent.RoleOfCatalog row.id in
        let after : Rows = record (without_catalog s row) { time = time_of s command } in
        leads-by s command (without_catalog s row) _ (changes-without_catalog s sound (time_of s command) (s.charged + command.charge) row (catalog-own s command sound name row found)) (and_then (and_then
        (rows-dropped catalog_role.the_row.coded catalog_role_id DropCatalogRole (λ roles. record after { access = record s.access { catalog_roles = roles } }) (λ roles id. refl) (λ role. role.catalog == row.id) s.access.catalog_roles sound.orderly.access.catalog_roles.rise)
        (facts-dropped join.the_row.coded join_cmp DropJoin (λ joins. record after { access = record after.access { joins = joins; grants = s.access.grants } }) (λ joins fact. refl) (join_names s.access.catalog_roles named) s.access.joins))
        (facts-dropped grant.the_row.coded grant_cmp DropGrant (λ grants. record after { access = record after.access { grants = grants } }) (λ grants fact. refl) (grant_names s.access.catalog_roles named) s.access.grants)).is));
    orderly = λ sound within passes. orderly-drop_catalog s command sound within name passes;
    fair = fair-caller command ⊳ fair-no_catalogue name ⊳ fair-need command _ ⊳ fair-inside name fair-catalog_holds ⊳ none-fair;
    answer = λ sound. refl;
  }

  -- namespaces
  pub owes-list_namespaces : (name : List ℕ) (parent : Option (List (List ℕ))) → OwesAlike (λ t. list_namespaces t command name parent)
  owes-list_namespaces name parent =
      owes-reading s command (fair-caller command ⊳ fair-no_catalogue name ⊳ fair-inside name (λ catalog. fair-need command _) ⊳ fair-inside name (λ catalog. fair-no_parent catalog.id parent) ⊳ none-fair)

  pub owes-create_namespace : (name : List ℕ) (levels : List (List ℕ)) (properties : List Property) → OwesAlike (λ t. create_namespace t command name levels properties)
  owes-create_namespace name levels properties = record {
    rows = owes-done s command (catalog_named name s.content) _ _ (λ catalog found.
        let row : NamespaceRow = record { id = s.next_id; catalog = catalog.id; levels = levels; properties = properties } in
        owes-apart s command (with_new_namespace s row) refl (λ sound. leads-by s command (with_new_namespace s row) _ (namespace_changes s command sound row refl) refl));
    orderly = λ sound within passes. orderly-done s command sound within (catalog_named name s.content) (λ (catalog : CatalogRow). with_new_namespace s (record { id = s.next_id; catalog = catalog.id; levels = levels; properties = properties })) (λ catalog is.
        let row : NamespaceRow = record { id = s.next_id; catalog = catalog.id; levels = levels; properties = properties } in
        let parent = sym (ap (λ one. given one (λ (catalog : CatalogRow). no_parent s catalog.id (parent_of levels))) is) ∙ passes.1.1.1.0 in
        let taken = sym (ap (λ one. given one (λ (catalog : CatalogRow). name_taken (namespace_named catalog.id levels s.content) (dotted levels))) is) ∙ passes.1.1.1.1.0 in
        let there = sym (is_some-row_of catalog_id catalog.id s.content.catalogs) ∙ ap is_some (catalog-own s command sound name catalog is) in
        let pushed = pushed_namespace s.next_id s.content row sound.orderly.content (next_id-some s sound) refl there (whole_path s.content row (λ path above. path-whole s catalog.id path (sym (ap (no_parent s catalog.id) above) ∙ parent))) (name-free (namespace_named catalog.id levels s.content) (dotted levels) taken) in
        let last = (new_rows_last s.next_id s.content sound.orderly.content).1 row refl in
        tables-orderly s command s.access (with_new_namespace s row).content (s.next_id + 1) sound within (omega arith) (access_more_ids s.next_id (s.next_id + 1) s.access (omega arith) sound.orderly.access)
        (subst (λ rows. IsSoundContent (s.next_id + 1) (record s.content { namespaces = rows })) (sym last) pushed)
        (put_namespace s.access s.content sound.orderly.ties row (λ old known. none-unknown namespace_id s.next_id s.content.namespaces old known (knows-below namespace_id s.next_id s.content.namespaces (below-next namespace_id s.next_id s.content.namespaces sound.orderly.content.namespaces))) (unknown-later s sound s.next_id (omega arith))) sound.orderly.tokens_fit);
    fair = fair-caller command ⊳ fair-no_catalogue name ⊳ fair-inside name (λ catalog. fair-need command _) ⊳ fair-inside name (λ catalog. fair-no_parent catalog.id (parent_of levels)) ⊳ fair-inside name (λ catalog. fair-name_taken _ (dotted levels)) ⊳ none-fair;
    answer = λ sound. refl;
  }

  pub owes-load_namespace : (name : List ℕ) (levels : List (List ℕ)) → OwesAlike (λ t. load_namespace t command name levels)
  unfolding namespace_row_at
  owes-load_namespace name levels = owes-reading s command (fair-on_namespace command _ name levels none-fair)

  pub owes-head_namespace : (name : List ℕ) (levels : List (List ℕ)) → OwesAlike (λ t. head_namespace t command name levels)
  owes-head_namespace name levels = owes-reading s command (fair-on_namespace command _ name levels none-fair)

  pub owes-drop_namespace : (name : List ℕ) (levels : List (List ℕ)) → OwesAlike (λ t. drop_namespace t command name levels)
  unfolding namespace_row_at
  owes-drop_namespace name levels = record {
    rows = owes-done s command (namespace_row_at s name levels) _ _ (λ row found. owes-apart s command (without_namespace s row) refl (λ sound.
        let after : Rows = record (without_namespace s row) { time = time_of s command } in
        leads-by s command (without_namespace s row) _ (changes-without_namespace s sound (time_of s command) (s.charged + command.charge) row (namespace-own s command sound name levels row found))
        (facts-dropped grant.the_row.coded grant_cmp DropGrant (λ grants. record after { access = record after.access { grants = grants } }) (λ grants fact. refl) (grant_names s.access.catalog_roles (referent.Securable (securable.Namespace row.id))) s.access.grants).is));
    orderly = λ sound within passes. orderly-drop_namespace s command sound within name levels passes;
    fair = fair-on_namespace command _ name levels (fair-given (namespace_row_at s name levels) fair-namespace_holds ⊳ none-fair);
    answer = λ sound. refl;
  }

  pub owes-update_properties : (name : List ℕ) (levels removals : List (List ℕ)) (updates : List Property) → OwesAlike (λ t. update_properties t command name levels removals updates)
  unfolding namespace_row_at
  owes-update_properties name levels removals updates = record {
    rows = owes-done s command (namespace_row_at s name levels) (with_properties s removals updates) (with_properties live removals updates) (λ row found. owes-apart s command (with_properties s removals updates row) refl (λ sound.
        let altered : NamespaceRow = record row { properties = pairs_updated removals updates row.properties } in
        let own = namespace-own s command sound name levels row found in
        leads-one s command (with_altered s altered) (PutNamespace altered) true (same namespace.the_row.coded altered row) (λ as_is. unaltered s command sound altered (own ∙ ap Some (sym (same-true namespace.the_row.coded altered row as_is)))) (changes-altered s sound (time_of s command) (s.charged + command.charge) altered row own) refl));
    orderly = λ sound within passes. orderly-update_properties s command sound within name levels removals updates passes;
    fair = fair-on_namespace command _ name levels (fair-key_twice removals updates ⊳ none-fair);
    answer = λ sound. refl;
  }
