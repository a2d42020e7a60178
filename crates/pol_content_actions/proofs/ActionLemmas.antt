-- The actions on catalogues and namespaces keep a state orderly.
use Rattle.std.proofs.Common.{◌≡◌, ℕ, ◌+◌, Bool, true, false, not, ◌&&◌, ◌||◌, codes, List, [], ◌∷◌, ◌++◌, Option, None, Some, option_and_then, is_some, refl, sym, ap, subst, ◌∙◌, arith, true≢false}
use Rattle.std.specs.Option.{option_map}
use Rattle.std.specs.Str.{bytes_eq}
use Rattle.std.proofs.lemmas.Bool.{eq-eqb, ne_eqb, or_parts}
use Rattle.pol_access.specs.Access.{AccessRows, catalog_role_id, has_other_role, principal_role_id}
use Rattle.pol_access.specs.Names.{catalog_role_named, has_catalog_role_name, has_role_name, principal_role_named}
use Rattle.pol_access.specs.Privilege.{grantable}
use Rattle.pol_access.specs.contracts.rows.GrantRow as grant
use Rattle.pol_access.specs.contracts.rows.JoinRow as join
use Rattle.pol_access.specs.declared.privilege.Privilege.TheVariants.{CatalogManageAccess, CatalogManageContent}
use Rattle.pol_access.specs.declared.rows.PrincipalRoleRow.{PrincipalRoleRow}
use Rattle.pol_access.specs.declared.securable.Securable.TheVariants as securable
use Rattle.pol_access.specs.declared.securable.SecurableKind.TheVariants as kind
use Rattle.pol_access.proofs.SoundLemmas.{dropped_catalog_roles, dropped_grants, pushed_catalog_role, put_grant, put_join, more_ids as access_more_ids}
use Rattle.pol_tables.specs.Facts.{facts_with}
use Rattle.pol_tables.specs.Same.{same}
use Rattle.pol_tables.specs.Table.{has_id, knows, row_of, rows_with, IdsDiffer}
use Rattle.pol_tables.proofs.ListLemmas.{each-weaken, or_true}
use Rattle.pol_tables.proofs.NamedLemmas.{each-own, find-none}
use Rattle.pol_tables.proofs.RisingLemmas.{IdsDiffer-rising}
use Rattle.pol_tables.proofs.TableLemmas.{is_some-row_of, rows_with-known, rows_with-new, rows_with-same, some_is}
use Rattle.pol_content.specs.Content.{ContentRows, catalog_id, catalog_is_empty, catalog_named, first_missing, is_empty, is_namespace_named, namespace_id, namespace_named}
use Rattle.pol_content.specs.Sound.{IsSoundContent}
use Rattle.pol_content.specs.Ties.{admin_grant, admin_join, admin_of, is_access_id, with_admin}
use Rattle.pol_content.specs.contracts.rows.NamespaceRow.{the_row}
use Rattle.pol_content.specs.declared.rows.CatalogRow.{CatalogRow}
use Rattle.pol_content.specs.declared.rows.NamespaceRow.{NamespaceRow}
use Rattle.pol_content.proofs.SoundLemmas.{dropped_catalog, dropped_namespace, more_ids, new_rows_last, no-parts, pushed_catalog, replaced_namespace}
use Rattle.pol_content.proofs.TiedContentLemmas as ties
use Rattle.pol_content.proofs.TiedContentLemmas.{created_catalog, put_namespace}
use Rattle.pol_content.proofs.TiesLemmas.{new_ids}
use Rattle.pol_properties.specs.Properties.{pairs_updated}
use Rattle.pol_properties.specs.declared.property.Property.{Property}
use Rattle.pol_commands.specs.declared.command.Command.{Command}
use Rattle.pol_commands.specs.declared.reply.Refusal.TheVariants.{NoNamespace}
use Rattle.pol_state.specs.Rows.{Rows}
use Rattle.pol_state.specs.Sound.{IsCatalogRoleOf, IsGiven, IsOrderly, IsSound, IsSoundAccess}
use Rattle.pol_rules.specs.Acting.{stamped}
use Rattle.pol_state.specs.Bounds.{EachPasses}
use Rattle.pol_rules.specs.Prologues.{namespace_row_at}
use Rattle.pol_rules.specs.Rules.{catalog_holds, given, namespace_holds, no_namespace}
use Rattle.pol_rules.proofs.RulesLemmas.{refused-not, name-free}
use Rattle.pol_rules.proofs.FoundLemmas.{found-holds}
use Rattle.pol_rules.proofs.SoundLemmas.{next_id-some, orderly-done, tables-orderly, IsWithin}
use Rattle.pol_content_actions.specs.Catalogs.{create_catalog, drop_catalog, new_catalog, with_catalog, without_catalog}
use Rattle.pol_content_actions.specs.Namespaces.{drop_namespace, update_properties, with_altered, with_properties, without_namespace}
use Rattle.pol_content_actions.proofs.ChangesLemmas.{admin-last, unknown-later}

-- both grants of a `catalog_admin` are of privileges that may be granted on a catalogue
may_have_access : grantable CatalogManageAccess kind.Catalog ≡ true
unfolding grantable
may_have_access = refl

may_have_content : grantable CatalogManageContent kind.Catalog ≡ true
unfolding grantable
may_have_content = refl

-- a row that goes last is there
knows-last : {R : Type 0} (key : R → ℕ) (row : R) (rows : List R) → knows key (key row) (rows ++ row ∷ []) ≡ true
knows-last key row [] = ap (λ b. b || false) (eq-eqb (key row) (key row) refl)
knows-last key row (first ∷ rows) = ap (λ b. has_id key (key row) first || b) (knows-last key row rows) ∙ or_true (has_id key (key row) first)

-- nothing is found under an id that isn't known
pub none-unknown : {R A : Type 0} (key : R → ℕ) (id : ℕ) (rows : List R) (row : R) → row_of key id rows ≡ Some row → knows key id rows ≡ false → A
none-unknown key id rows row there unknown =
    absurd (true≢false (sym (sym (is_some-row_of key id rows) ∙ ap is_some there) ∙ unknown))

not_not : (b : Bool) → not b ≡ false → b ≡ true
not_not true is = refl
not_not false is = sym is

module _ (s : Rows) where
  catalog-empty : (catalog : CatalogRow) → catalog_holds s catalog ≡ None → catalog_is_empty catalog.id s.content ≡ true
  unfolding catalog_holds
  catalog-empty catalog passes =
      not_not _ (or_parts (not (catalog_is_empty catalog.id s.content)) (has_other_role catalog.id (codes "catalog_admin") s.access) (refused-not (not (catalog_is_empty catalog.id s.content) || has_other_role catalog.id (codes "catalog_admin") s.access) _ passes)).0

  namespace-empty : (namespace : NamespaceRow) → namespace_holds s namespace ≡ None → is_empty namespace.id s.content ≡ true
  unfolding namespace_holds
  namespace-empty namespace passes = not_not _ (refused-not (not (is_empty namespace.id s.content)) _ passes)

  mapped-none : (found : Option (List (List ℕ))) → option_map NoNamespace found ≡ None → found ≡ None
  mapped-none None none = refl
  mapped-none (Some path) some = let contrary : Some (NoNamespace path) ≡ None = some in cc

  pub path-whole : (catalog : ℕ) (levels : List (List ℕ)) → no_namespace s catalog levels ≡ None → first_missing catalog levels s.content ≡ None
  unfolding no_namespace
  path-whole catalog levels passes = mapped-none (first_missing catalog levels s.content) passes

module _ (s : Rows) (command : Command) where
  module _ (sound : IsSound s) where
    namespaces-differ : IdsDiffer namespace_id s.content.namespaces
    namespaces-differ = IdsDiffer-rising namespace_id s.content.namespaces sound.orderly.content.namespaces.rise

    -- and the principal role of a name
    service-own : (row : PrincipalRoleRow) → principal_role_named (codes "service_admin") s.access ≡ Some row → row_of principal_role_id row.id s.access.principal_roles ≡ Some row
    service-own row found =
        found-holds (λ one. row_of principal_role_id (principal_role_id one) s.access.principal_roles ≡ Some one) (has_role_name (codes "service_admin")) s.access.principal_roles row (each-own principal_role_id s.access.principal_roles (IdsDiffer-rising principal_role_id s.access.principal_roles sound.orderly.access.principal_roles.rise)) found

    own-at : (levels : List (List ℕ)) (row : NamespaceRow) (found : Option CatalogRow) → option_and_then (λ (catalog : CatalogRow). namespace_named catalog.id levels s.content) found ≡ Some row → row_of namespace_id row.id s.content.namespaces ≡ Some row
    own-at levels row None found = let contrary : None ≡ Some row = found in cc
    own-at levels row (Some catalog) found =
        found-holds (λ one. row_of namespace_id (namespace_id one) s.content.namespaces ≡ Some one) (is_namespace_named catalog.id levels) s.content.namespaces row (each-own namespace_id s.content.namespaces namespaces-differ) found

    pub namespace-own : (name : List ℕ) (levels : List (List ℕ)) (row : NamespaceRow) → namespace_row_at s name levels ≡ Some row → row_of namespace_id row.id s.content.namespaces ≡ Some row
    unfolding namespace_row_at
    namespace-own name levels row found = own-at levels row (catalog_named name s.content) found

    -- a namespace that is put as it stands changes nothing
    pub unaltered : (row : NamespaceRow) → row_of namespace_id row.id s.content.namespaces ≡ Some row → with_altered s row ≡ s
    unaltered row there =
        let known = sym (is_some-row_of namespace_id row.id s.content.namespaces) ∙ ap is_some there in
        ap (λ rows. record s { content = record s.content { namespaces = rows } }) (rows_with-known namespace_id row s.content.namespaces known ∙ rows_with-same namespace_id row s.content.namespaces namespaces-differ there)

    module _ (within : IsWithin s command) where
      -- a catalogue that is put, with its `catalog_admin`
      admin-named : (catalog : ℕ) → catalog ≡ s.next_id → catalog_role_named catalog (codes "catalog_admin") s.access ≡ None
      admin-named catalog id =
          find-none (has_catalog_role_name catalog (codes "catalog_admin")) s.access.catalog_roles (each-weaken (IsCatalogRoleOf s.next_id s.access.principals s.access.principal_roles) (λ row. has_catalog_role_name catalog (codes "catalog_admin") row ≡ false) s.access.catalog_roles (λ row known. ap (λ b. b && bytes_eq (codes "catalog_admin") row.name) (ne_eqb row.catalog catalog (λ is. let below = known.catalog.1 in omega (arith, below, is, id)))) sound.orderly.access.catalog_roles_known)

      access-with_admin : (row : CatalogRow) (service : PrincipalRoleRow) → row.id ≡ s.next_id → principal_role_named (codes "service_admin") s.access ≡ Some service
          → IsSoundAccess (s.next_id + 2) (with_admin row.id service.id s.access)
      access-with_admin row service id there =
          let catalog = row.id in
          let next = s.next_id + 1 in
          let more = access_more_ids s.next_id next s.access (omega arith) sound.orderly.access in
          let given : IsGiven next catalog = (omega (arith, id, next_id-some s sound), omega (arith, id)) in
          let given_later : IsGiven (s.next_id + 2) catalog = (omega (arith, id, next_id-some s sound), omega (arith, id)) in
          let new = admin-last s sound catalog service.id id in
          let two_more : next + 1 ≡ s.next_id + 2 = omega arith in
          let pushed = subst (λ high. IsSoundAccess high (record s.access { catalog_roles = s.access.catalog_roles ++ admin_of catalog ∷ [] })) two_more (pushed_catalog_role next s.access (admin_of catalog) more (omega arith) (let same : catalog + 1 ≡ next = omega (arith, id) in same) given (admin-named catalog id)) in
          let first : AccessRows = record s.access { catalog_roles = s.access.catalog_roles ++ admin_of catalog ∷ [] } in
          let role_there = knows-last catalog_role_id (admin_of catalog) s.access.catalog_roles in
          let service_there = sym (is_some-row_of principal_role_id service.id s.access.principal_roles) ∙ ap is_some (service-own service there) in
          let joined = put_join (s.next_id + 2) first (admin_join service.id catalog) pushed service_there role_there in
          let second : AccessRows = record first { joins = facts_with join.the_row.coded (admin_join service.id catalog) s.access.joins } in
          let one = admin_grant CatalogManageAccess catalog in
          let two = admin_grant CatalogManageContent catalog in
          let managed = put_grant (s.next_id + 2) second one joined (record { role = role_there; securable = given_later; allowed = may_have_access }) in
          let third : AccessRows = record second { grants = facts_with grant.the_row.coded one s.access.grants } in
          let filled = put_grant (s.next_id + 2) third two managed (record { role = role_there; securable = given_later; allowed = may_have_content }) in
          subst (λ catalog_roles. IsSoundAccess (s.next_id + 2) (record (with_admin catalog service.id s.access) { catalog_roles = catalog_roles })) (sym (rows_with-new catalog_role_id (admin_of catalog) s.access.catalog_roles new.0.role)) filled

      orderly-with_catalog : (row : CatalogRow) (service : PrincipalRoleRow) → row.id ≡ s.next_id → principal_role_named (codes "service_admin") s.access ≡ Some service → catalog_named row.name s.content ≡ None → IsOrderly (stamped s command (with_catalog s row service))
      orderly-with_catalog row service id there free =
          let pushed = pushed_catalog s.next_id s.content row sound.orderly.content (next_id-some s sound) id free in
          let last = (new_rows_last s.next_id s.content sound.orderly.content).0 row id in
          let put = subst (λ rows. IsSoundContent (s.next_id + 1) (record s.content { catalogs = rows })) (sym last) pushed in
          let after : ContentRows = record s.content { catalogs = rows_with catalog_id row s.content.catalogs } in
          let tied = created_catalog s.access s.content sound.orderly.ties row service there (new_ids s.next_id row.id s.content sound.orderly.content (omega (arith, id))) (new_ids s.next_id (row.id + 1) s.content sound.orderly.content (omega (arith, id))) (unknown-later s sound row.id (omega (arith, id))) (unknown-later s sound (row.id + 1) (omega (arith, id))) in
          tables-orderly s command (with_admin row.id service.id s.access) after (s.next_id + 2) sound within (omega arith) (access-with_admin row service id there) (more_ids (s.next_id + 1) (s.next_id + 2) after (omega arith) put) tied sound.orderly.tokens_fit

      pub orderly-create_catalog : (name base : List ℕ) (allowed : List (List ℕ)) (properties : List Property) (external : Bool)
          → EachPasses (create_catalog s command name base allowed properties external).rules → IsOrderly (stamped s command (create_catalog s command name base allowed properties external).after)
      orderly-create_catalog name base allowed properties external passes =
          let row = new_catalog s name base allowed properties in
          orderly-done s command sound within (principal_role_named (codes "service_admin") s.access) (with_catalog s row) (λ service there.
          orderly-with_catalog row service refl there (name-free (catalog_named name s.content) name passes.1.1.0))

      -- a catalogue that is dropped
      pub orderly-drop_catalog : (name : List ℕ) → EachPasses (drop_catalog s command name).rules → IsOrderly (stamped s command (drop_catalog s command name).after)
      orderly-drop_catalog name passes = orderly-done s command sound within (catalog_named name s.content) (without_catalog s) (λ row is.
          let empty = catalog-empty s row (sym (ap (λ one. given one (catalog_holds s)) is) ∙ passes.1.1.1.0) in
          tables-orderly s command (without_catalog s row).access (without_catalog s row).content s.next_id sound within (omega arith) (dropped_catalog_roles s.next_id row.id s.access sound.orderly.access).1 (dropped_catalog s.next_id row.id s.content sound.orderly.content empty)
          (ties.dropped_catalog s.access s.content sound.orderly.ties row.id (IdsDiffer-rising catalog_role_id s.access.catalog_roles sound.orderly.access.catalog_roles.rise)) sound.orderly.tokens_fit)

      -- a namespace that is dropped
      pub orderly-drop_namespace : (name : List ℕ) (levels : List (List ℕ)) → EachPasses (drop_namespace s command name levels).rules → IsOrderly (stamped s command (drop_namespace s command name levels).after)
      orderly-drop_namespace name levels passes = orderly-done s command sound within (namespace_row_at s name levels) (without_namespace s) (λ row is.
          let empty = namespace-empty s row (sym (ap (λ one. given one (namespace_holds s)) is) ∙ passes.1.1.1.1.0) in
          tables-orderly s command (without_namespace s row).access (without_namespace s row).content s.next_id sound within (omega arith) ((dropped_grants s.next_id s.access sound.orderly.access).1 (securable.Namespace row.id)) (dropped_namespace s.next_id row.id s.content sound.orderly.content empty)
          (ties.dropped_namespace s.access s.content sound.orderly.ties row.id (no-parts row.id s.content empty).1 (no-parts row.id s.content empty).2) sound.orderly.tokens_fit)

      -- a namespace whose properties are removed and set
      pub orderly-update_properties : (name : List ℕ) (levels removals : List (List ℕ)) (updates : List Property) → EachPasses (update_properties s command name levels removals updates).rules → IsOrderly (stamped s command (update_properties s command name levels removals updates).after)
      orderly-update_properties name levels removals updates passes = orderly-done s command sound within (namespace_row_at s name levels) (with_properties s removals updates) (λ old is.
          let row : NamespaceRow = record old { properties = pairs_updated removals updates old.properties } in
          let own = namespace-own name levels old is in
          let apart = found-holds (λ kept. is_access_id kept.id s.access ≡ false) (has_id namespace_id old.id) s.content.namespaces old sound.orderly.ties.ids_apart.namespaces own in
          tables-orderly s command s.access (with_altered s row).content s.next_id sound within (omega arith) sound.orderly.access (replaced_namespace s.next_id s.content old row sound.orderly.content own refl refl)
          (put_namespace s.access s.content sound.orderly.ties row (λ kept there. ap (λ (one : NamespaceRow). one.catalog) (some_is old kept (sym own ∙ there))) apart) sound.orderly.tokens_fit)
